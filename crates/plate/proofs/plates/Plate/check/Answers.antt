use Rattle.std.proofs.Common.{arith}
use Rattle.plate.specs.Plates.{cells}
use Rattle.plate.proofs.Marks.{no_gap}
use Rattle.plate.proofs.plates.Plate.check.Goals as goal

pub returns-in-1-to-4096 : goal.returns-in-1-to-4096
returns-in-1-to-4096 c =
    let memory = c.args.memory.now in (
      λ unfit. absurd (unfit (record {
        some = omega arith;
        few = omega arith;
        marks = c.if-marks_fit.ensures;
        order = no_gap memory (cells memory) c.if-not-has_gap.ensures;
      })),
      tt,
    )

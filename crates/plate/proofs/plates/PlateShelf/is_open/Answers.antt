use Rattle.std.proofs.Common.{arith}
use Rattle.std.proofs.Math.Facts.{ltb_yes, yes_ltb}
use Rattle.plate.specs.Plates.{cells}
use Rattle.plate.proofs.Marks.{unused_left, left_unused}
use Rattle.plate.proofs.plates.PlateShelf.is_open.Goals as goal

pub returns-then-place-self-clause-while_one_remains : goal.returns-then-place-self-clause-while_one_remains
returns-then-place-self-clause-while_one_remains c =
    let memory = c.args.self.now.memory.now in
    let counted = c.args.self.now.counted in (
      λ t. (c.if-place-self.true, unused_left memory (cells memory) (omega (arith, ltb_yes t, counted, c.cells_in.ensures))),
      λ h. yes_ltb (omega (arith, left_unused memory (cells memory) h.1.0 h.1.1 h.1.2, counted, c.cells_in.ensures)),
    )

use Rattle.std.proofs.Common.{◌≡◌, sym, ap, ◌∙◌, subst, arith}
use Rattle.plate.specs.Plates.{cells, last_cell, LastCell, held}
use Rattle.plate.proofs.Marks.{last_law}
use Rattle.plate.proofs.plates.Plate.last_cell.Goals as goal

pub returns : goal.returns
returns c =
    let memory = c.args.self.now.memory.now in
    let found : last_cell memory c.args.place (cells memory) ≡ c.last_cell_of.result = sym (c.last_cell_of.ensures ∙ ap (last_cell memory c.args.place) c.cells_in.ensures) in
    record {
      inside = λ h. subst (LastCell memory c.args.place (cells memory)) found (last_law memory c.args.place (cells memory));
      holds = λ h. ap (held memory) found;
      outside = λ h. absurd (omega arith);
    }

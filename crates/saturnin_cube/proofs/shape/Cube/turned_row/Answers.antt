use Rattle.std.proofs.Common.{rules, ◌+◌, ◌*◌}
use Rattle.octets.specs.Lists.{at}
use Rattle.saturnin_cube.specs.Nibbles.{nibbles}
use Rattle.saturnin_cube.specs.Parts.{turned_from}
use Rattle.saturnin_cube.proofs.Made.{made_row}
use Rattle.saturnin_cube.proofs.shape.Cube.turned_row.Goals as goal

pub returns : goal.returns
returns c =
    made_row _ _ (λ y. at (nibbles c.args.self.now) (turned_from c.args.by.x c.args.by.z (4 * c.args.b + y))) _
    (λ y n q lt called. (search rules, search rules)) c.from_fn.ensures.items

use Rattle.saturnin_cube.proofs.Nibbles.{row_is}
use Rattle.saturnin_cube.proofs.shape.Cube.row.Goals as goal

pub returns : goal.returns
returns c = row_is c.args.self.now c.args.b _ c.requires

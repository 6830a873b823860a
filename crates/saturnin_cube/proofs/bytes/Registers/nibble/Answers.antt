use Rattle.std.proofs.Common.{◌*◌, add-zero}
use Rattle.saturnin_cube.specs.Parts.{nibble_in}
use Rattle.saturnin_cube.proofs.bytes.Registers.nibble.Goals as goal

pub returns : goal.returns
unfolding nibble_in
returns c = rw (add-zero (4 * c.args.y)) (cc)

use Rattle.saturnin.specs.Layers.{α}
use Rattle.saturnin_cube.proofs.Flags.{flag_xor}
use Rattle.saturnin_cube.proofs.nibble.Nibble.alpha.Goals as goal

pub returns : goal.returns
unfolding α
returns c = let sum = flag_xor c.bits-x0.result.0 c.bits-x0.result.1 in cc

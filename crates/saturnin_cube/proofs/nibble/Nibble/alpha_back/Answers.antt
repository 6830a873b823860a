use Rattle.saturnin.specs.Back.{α⁻¹}
use Rattle.saturnin_cube.proofs.Flags.{flag_xor}
use Rattle.saturnin_cube.proofs.nibble.Nibble.alpha_back.Goals as goal

pub returns : goal.returns
unfolding α⁻¹
returns c = let sum = flag_xor c.bits-x0.result.3 c.bits-x0.result.0 in cc

use Rattle.saturnin_cube.specs.Nibbles.{nibbles}
use Rattle.saturnin_cube.proofs.Loads.{Has_bits, bit_in}
use Rattle.saturnin_cube.proofs.shape.Cube.register.Given as goal

abbrev pub invariant-loop-b : goal.invariant-loop-b
invariant-loop-b l = Has_bits (bit_in (nibbles l.self) l.g) l.b l.x

use lib.Bits.{xor_lt}
use Rattle.saturnin_cube.proofs.nibble.NibbleBitXor.bitxor.Goals as goal

pub invariant_of-result : goal.invariant_of-result
invariant_of-result c = record { small = xor_lt 4 c.args.self.value c.args.other.value c.args.self.small c.args.other.small }

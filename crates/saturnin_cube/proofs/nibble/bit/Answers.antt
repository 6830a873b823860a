use Rattle.std.proofs.Common.{◌^◌, ◌/◌, ◌%◌, arith}
use Rattle.saturnin.specs.Bits.{bit}
use Rattle.saturnin_cube.proofs.Flags.{flag}
use Rattle.saturnin_cube.proofs.nibble.bit.Goals as goal

pub returns : goal.returns
unfolding bit
returns c = flag (c.args.x / 2 ^ c.args.k % 2) (omega arith)

use Rattle.std.proofs.Common.{rules}
use Rattle.saturnin.specs.Cube.{register}
use Rattle.octets.proofs.Made.{made_table}
use Rattle.saturnin_cube.proofs.bytes.Registers.of.Goals as goal

pub returns : goal.returns
unfolding register
returns c = made_table _ _ _ 16 _ (λ g x q lt called. (search rules, search rules)) c.from_fn.ensures.items

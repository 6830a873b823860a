use Rattle.std.proofs.Common.{rules}
use Rattle.saturnin.specs.Layers.{add}
use Rattle.saturnin_cube.proofs.Made.{made_cube}
use Rattle.saturnin_cube.proofs.sums.CubeBitXor.bitxor.Goals as goal

pub returns : goal.returns
unfolding add
returns c = made_cube _ _ _ _ (λ b r q lt called. (search rules, search rules)) c.from_fn.ensures.items

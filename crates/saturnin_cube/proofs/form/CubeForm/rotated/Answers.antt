use Rattle.std.proofs.Common.{rules}
use Rattle.saturnin.specs.Rounds.{rotated}
use Rattle.saturnin_cube.proofs.Made.{made_cube}
use Rattle.saturnin_cube.proofs.form.CubeForm.rotated.Goals as goal

pub returns : goal.returns
unfolding rotated
returns c = made_cube _ _ _ _ (λ b r q lt called. (search rules, search rules)) c.from_fn.ensures.items

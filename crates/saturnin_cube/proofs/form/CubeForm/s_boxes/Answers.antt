use Rattle.std.proofs.Common.{rules}
use Rattle.saturnin.specs.Layers.{S, σ₀, σ₁}
use Rattle.saturnin_cube.proofs.Nibbles.{boxes}
use Rattle.saturnin_cube.proofs.form.CubeForm.s_boxes.Goals as goal

pub returns : goal.returns
unfolding S σ₀ σ₁
returns c = boxes σ₀ σ₁ c.args.self _ (λ b r h y l. let called = c.map.ensures.items.at b r r h in search rules)

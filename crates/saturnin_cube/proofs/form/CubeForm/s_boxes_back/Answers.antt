use Rattle.std.proofs.Common.{rules}
use Rattle.saturnin.specs.Back.{S⁻¹, σ₀⁻¹, σ₁⁻¹}
use Rattle.saturnin_cube.proofs.Nibbles.{boxes}
use Rattle.saturnin_cube.proofs.form.CubeForm.s_boxes_back.Goals as goal

pub returns : goal.returns
unfolding S⁻¹ σ₀⁻¹ σ₁⁻¹
returns c = boxes σ₀⁻¹ σ₁⁻¹ _ _ (λ b r h y l. let called = c.map.ensures.items.at b r r h in search rules)

use Rattle.saturnin.specs.Back.{σ₀⁻¹, σ₁⁻¹, S⁻¹}
use Rattle.saturnin_words.proofs.Places.{mapped}
use Rattle.saturnin_words.proofs.form.StateForm.s_boxes_back.Goals as goal

pub returns : goal.returns
unfolding S⁻¹
returns c = mapped σ₀⁻¹ σ₁⁻¹ _ c.args.self c.sigma0_back.ensures c.sigma1_back.ensures

use Rattle.saturnin.specs.Layers.{σ₀, σ₁, S}
use Rattle.saturnin_words.proofs.Places.{mapped}
use Rattle.saturnin_words.proofs.form.StateForm.s_boxes.Goals as goal

pub returns : goal.returns
unfolding S
returns c = mapped σ₀ σ₁ _ c.args.self c.sigma0.ensures c.sigma1.ensures

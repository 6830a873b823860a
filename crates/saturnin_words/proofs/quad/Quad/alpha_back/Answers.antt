use Rattle.saturnin_words.proofs.Quads.{across-α⁻¹}
use Rattle.saturnin_words.proofs.quad.Quad.alpha_back.Goals as goal

pub returns : goal.returns
returns c = let x = c.args.self in across-α⁻¹ x.a x.b x.c x.d

use Rattle.saturnin_words.proofs.Quads.{across-α}
use Rattle.saturnin_words.proofs.quad.Quad.alpha.Goals as goal

pub returns : goal.returns
returns c = let x = c.args.self in across-α x.a x.b x.c x.d

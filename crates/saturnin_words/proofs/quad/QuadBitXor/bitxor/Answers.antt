use Rattle.saturnin_words.proofs.Quads.{across-xor}
use Rattle.saturnin_words.proofs.quad.QuadBitXor.bitxor.Goals as goal

pub returns : goal.returns
returns c = let x = c.args.self in let y = c.args.other in across-xor x.a x.b x.c x.d y.a y.b y.c y.d

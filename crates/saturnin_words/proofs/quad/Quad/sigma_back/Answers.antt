use Rattle.saturnin_words.proofs.Quads.{unsigma_zero, unsigma_one}
use Rattle.saturnin_words.proofs.quad.Quad.sigma_back.Goals as goal

pub returns : goal.returns
returns c = let q = c.args.self in record { zero = unsigma_zero q.a q.b q.c q.d; one = unsigma_one q.a q.b q.c q.d }

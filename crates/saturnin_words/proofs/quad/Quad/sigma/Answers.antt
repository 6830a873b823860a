use Rattle.saturnin_words.proofs.Quads.{sigma_zero, sigma_one}
use Rattle.saturnin_words.proofs.quad.Quad.sigma.Goals as goal

pub returns : goal.returns
returns c = let q = c.args.self in record { zero = sigma_zero q.a q.b q.c q.d; one = sigma_one q.a q.b q.c q.d }

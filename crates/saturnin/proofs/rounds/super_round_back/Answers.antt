use Rattle.saturnin.specs.TwoRounds.{super_round⁻¹}
use Rattle.saturnin.proofs.rounds.super_round_back.Goals as goal

pub returns : goal.returns
unfolding super_round⁻¹
returns g c = cc (g.met.F.Form.adds _ _ _ c.bitxor-s.ensures)

use Rattle.std.proofs.Common.{◌≡◌, ◌*◌}
use Rattle.saturnin.specs.Rounds.{rounds}
use Rattle.saturnin.proofs.rounds.rounds.Given as goal

abbrev pub invariant-loop-slice : goal.invariant-loop-slice
invariant-loop-slice g l = g.F.Form.cube l.s ≡ rounds (g.F.Form.cube l.key) l.constants.of.separator l.constants.of.super_rounds (2 * (2 * l.slice-index)) (g.F.Form.cube l.initial.s)

use Rattle.std.proofs.Common.{◌≡◌, ◌+◌}
use Rattle.saturnin.specs.Rounds.{clocked}
use Rattle.saturnin.proofs.schedule.clock_sixteen.Given as goal

abbrev pub invariant-loop-i : goal.invariant-loop-i
invariant-loop-i g l = l.x ≡ clocked (65536 + g.row.TAPS) l.c l._i

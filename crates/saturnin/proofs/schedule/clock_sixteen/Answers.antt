use Rattle.std.proofs.Common.{◌+◌, refl, ap, ◌∙◌}
use Rattle.saturnin.specs.Rounds.{clock, clocked}
use Rattle.saturnin.proofs.Clocks.{clocked_more}
use Rattle.saturnin.proofs.schedule.clock_sixteen.Goals as goal

pub loop-i-init : goal.loop-i-init
unfolding clocked
loop-i-init g c = refl

pub loop-i-preserved : goal.loop-i-preserved
loop-i-preserved g c =
    c.clock_once-x.ensures ∙ ap (clock (65536 + g.row.TAPS)) c.loop-i.invariant ∙ clocked_more (65536 + g.row.TAPS) c.args.c c.loop-i._i

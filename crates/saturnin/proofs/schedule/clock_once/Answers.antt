use Rattle.std.proofs.Common.{arith}
use Rattle.saturnin.proofs.Clocks.{clock_low, clock_high}
use Rattle.saturnin.proofs.schedule.clock_once.Goals as goal

pub returns-then-c-lt32768 : goal.returns-then-c-lt32768
returns-then-c-lt32768 g c = clock_low _ c.args.c (omega arith)

pub returns-else-c-lt32768 : goal.returns-else-c-lt32768
returns-else-c-lt32768 g c = clock_high g.row.TAPS c.args.c (omega arith) (omega arith) (omega arith)

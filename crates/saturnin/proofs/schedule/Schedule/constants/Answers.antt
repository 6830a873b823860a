use Rattle.std.proofs.Common.{arith}
use Rattle.saturnin.proofs.Schedules.{fewer}
use Rattle.saturnin.proofs.schedule.Schedule.constants.Goals as goal

pub invariant_of-result : goal.invariant_of-result
invariant_of-result c = let s = c.args.self.now in record { scheduled = fewer s.of.separator s.of.super_rounds 31 s.rounds s.scheduled s.of.super_rounds (omega (arith, s.of.few)) }

use Rattle.std.proofs.Common.{◌-◌, arith}
use Rattle.octets.specs.Lists.{table}
use Rattle.saturnin.specs.Rounds.{clock, clocked}
use Rattle.saturnin_words.specs.declared.tables.TheConstants.{OF_TEN, OF_SIXTEEN}
use Rattle.saturnin_words.proofs.Schedules.{from_row}
use Rattle.saturnin_words.proofs.tables.mode_constants.Goals as goal
use Rattle.saturnin_words.proofs.tables.mode_constants.Goals.{in-1-to-6-eq10, in-7-to-8-eq16}

pub invariant_of-result : goal.invariant_of-result
unfolding clock clocked table
invariant_of-result c = elim c.if-this-lt7.branch [
  | in-1-to-6-eq10 w ↦ record { scheduled = rw w.rounds-is (from_row OF_TEN 1 10 6 tt _ _ (c.args.of.separator - 1) (omega arith) (omega arith) (omega arith)) }
  | in-7-to-8-eq16 w ↦ record { scheduled = rw w.rounds-is (from_row OF_SIXTEEN 7 16 2 tt _ _ (c.args.of.separator - 7) (omega arith) (omega arith) (omega arith)) }
]

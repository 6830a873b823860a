use Rattle.std.proofs.Common.{◌≡◌, ℕ, ◌+◌, ◌*◌, ◌<◌, length, get_or}
use Rattle.saturnin.specs.Rounds.{clocked}
use Rattle.saturnin.proofs.Turns.{none}
use Rattle.saturnin.proofs.schedule.Schedule.new.Given as goal

abbrev pub invariant-loop-pair : goal.invariant-loop-pair
invariant-loop-pair l =
    let n = l.pair-index in (
    (l.c.0 ≡ clocked 0x1002d l.start (16 * n)) × (l.c.1 ≡ clocked 0x10053 l.start (16 * n)) × (length l.pair-items ≡ 31)
    × ((k : ℕ) → k < n → get_or l.pair-items k none ≡ record { 0 = clocked 0x1002d l.start (16 * (k + 1)); 1 = clocked 0x10053 l.start (16 * (k + 1)) })
    )

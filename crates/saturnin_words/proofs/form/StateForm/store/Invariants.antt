use Rattle.std.proofs.Common.{◌≡◌, ℕ, ◌/◌, ◌%◌, ◌<◌, length}
use Rattle.octets.specs.Lists.{at}
use Rattle.saturnin_words.proofs.Loading.{byte}
use Rattle.saturnin_words.proofs.form.StateForm.store.Given as goal

abbrev pub invariant-loop-j : goal.invariant-loop-j
invariant-loop-j l = (length l.bytes ≡ 32) × ((k : ℕ) → k < 32 → k / 2 % 8 < l.j → at l.bytes k ≡ byte l.word-items k)

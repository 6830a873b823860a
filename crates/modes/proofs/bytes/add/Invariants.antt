use Rattle.std.proofs.Common.{◌≡◌, ℕ, ◌<◌, ◌≤◌, get_or}
use lib.Bits.{bit_xor}
use Rattle.modes.proofs.bytes.add.Given as goal

abbrev pub invariant-loop-i : goal.invariant-loop-i
invariant-loop-i l =
    ((k : ℕ) → k < l.i → get_or l.part k 0 ≡ bit_xor (get_or l.initial.part k 0) (get_or l.block k 0))
    × ((k : ℕ) → l.i ≤ k → get_or l.part k 0 ≡ get_or l.initial.part k 0)

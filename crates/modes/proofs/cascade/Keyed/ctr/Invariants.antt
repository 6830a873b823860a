use Rattle.std.proofs.Common.{◌≡◌, ℕ, ◌*◌, ◌<◌, ◌≤◌, length, get_or}
use Rattle.modes.specs.Cascade.{masked}
use Rattle.modes.proofs.cascade.Keyed.ctr.Given as goal

abbrev pub invariant-loop-i : goal.invariant-loop-i
invariant-loop-i g l =
    ((k : ℕ) → k < 32 * l.i → k < length l.initial.out → get_or l.out k 0 ≡ masked (g.C.Cipher.forward l.self.cipher.now) l.self.key.now l.self.nonce.bytes.now l.initial.out k)
    × ((k : ℕ) → 32 * l.i ≤ k → get_or l.out k 0 ≡ get_or l.initial.out k 0)

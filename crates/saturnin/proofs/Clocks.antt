-- The clocking of the round constants.
use Rattle.std.proofs.Common.{◌≡◌, ℕ, zero, suc, ◌+◌, ◌-◌, ◌*◌, ◌^◌, ◌<◌, ◌≤◌, sym, ap, ◌∙◌, ap₂, add-zero, add-one, arith}
use lib.Bits.{bit_xor, xor_block}
use Rattle.std.proofs.lemmas.Bool.{lt-ltb, le-ltb}
use Rattle.saturnin.specs.Rounds.{clock, clocked}

pub clock_low : (poly c : ℕ) → c < 0x8000 → 2 * c ≡ clock poly c
unfolding clock
clock_low poly c h = rw (lt-ltb c 0x8000 h)

-- the two top bits cancel
pub clock_high : (taps c : ℕ) → 0x8000 ≤ c → c < 65536 → taps < 65536 → bit_xor (2 * (c - 0x8000)) taps ≡ clock (65536 + taps) c
unfolding clock
clock_high taps c h g l =
    let a : ℕ = 2 * (c - 0x8000) in
    let ea : 2 * c ≡ 1 * 2 ^ 16 + a = omega arith in
    let eb : 65536 + taps ≡ 1 * 2 ^ 16 + taps = omega arith in
    let e : bit_xor (2 * c) (65536 + taps) ≡ bit_xor a taps = ap₂ bit_xor ea eb ∙ xor_block 16 1 1 a taps (omega arith) (omega arith) ∙ omega arith in
    rw (le-ltb c 0x8000 h) (sym e)

pub clocked_more : (poly c n : ℕ) → clock poly (clocked poly c n) ≡ clocked poly c (n + 1)
unfolding clocked
clocked_more poly c n = rw add-one

pub clocked-add : (poly c n m : ℕ) → clocked poly (clocked poly c n) m ≡ clocked poly c (n + m)
unfolding clocked
clocked-add poly c n zero = rw add-zero
clocked-add poly c n (suc m) = ap (clock poly) (clocked-add poly c n m) ∙ clocked_more poly c (n + m) ∙ ap (clocked poly c) (omega arith)

-- sixteen more
pub clocked_next : (poly start n c : ℕ) → c ≡ clocked poly start (16 * n) → clocked poly c 16 ≡ clocked poly start (16 * (n + 1))
clocked_next poly start n c e = ap (λ v. clocked poly v 16) e ∙ clocked-add poly start (16 * n) 16 ∙ ap (clocked poly start) (omega arith)

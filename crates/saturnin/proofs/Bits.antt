-- Bits of numbers under AND, OR, XOR, shifts and remainders, and finite facts by a computed test.
use Rattle.std.proofs.Common.{◌≡◌, ℕ, zero, suc, ◌+◌, ◌-◌, ◌*◌, ◌/◌, ◌%◌, ◌^◌, ◌<◌, ◌≤◌, Bool, true, false, T, eqb, sym, ap, ◌∙◌, subst, inl, inr, mul_assoc, pow-suc, arith, lit<, eqb→eq}
use lib.Bits.{bit_and, bit_or, bit_xor}
use lib.Arith.{mod-mul}
use Rattle.std.proofs.lemmas.Bool.{cases_eq}
use Rattle.std.proofs.lemmas.Nat.{and_shr, or_shr, xor_shr, and_mod, or_mod, xor_mod, mod_below, shr-shr, shl-shr, field_of, pow_pos, pow-add}
use Rattle.saturnin.specs.Bits.{bit}

pub bit-bit_and : (a b k : ℕ) → bit (bit_and a b) k ≡ bit_and (bit a k) (bit b k)
unfolding bit
bit-bit_and a b k = ap (λ n. n % 2) (and_shr a b k) ∙ and_mod (a / 2 ^ k) (b / 2 ^ k) 1

pub bit-bit_or : (a b k : ℕ) → bit (bit_or a b) k ≡ bit_or (bit a k) (bit b k)
unfolding bit
bit-bit_or a b k = ap (λ n. n % 2) (or_shr a b k) ∙ or_mod (a / 2 ^ k) (b / 2 ^ k) 1

pub bit-xor : (a b k : ℕ) → bit (bit_xor a b) k ≡ bit_xor (bit a k) (bit b k)
unfolding bit
bit-xor a b k = ap (λ n. n % 2) (xor_shr a b k) ∙ xor_mod (a / 2 ^ k) (b / 2 ^ k) 1

pub bit_lt : (a k : ℕ) → bit a k < 2
unfolding bit
bit_lt a k = mod_below (a / 2 ^ k) 2 (omega arith)

-- every function of four bits is settled by sixteen tests, which antt computes
abbrev pub both : Bool → Bool → Bool
both true b = b
both false b = false

pub both_left : (a b : Bool) → T (both a b) → T a
both_left true b t = tt
both_left false b t = t

pub both_right : (a b : Bool) → T (both a b) → T b
both_right true b t = t
both_right false b t = absurd t

abbrev pub on_bit : (ℕ → Bool) → Bool
on_bit f = both (f 0) (f 1)

pub at-bit : (f : ℕ → Bool) → T (on_bit f) → (x : ℕ) → x < 2 → T (f x)
at-bit f t zero h = both_left (f 0) (f 1) t
at-bit f t (suc zero) h = both_right (f 0) (f 1) t
at-bit f t (suc (suc x)) h = absurd (omega arith)

abbrev pub on_bits : (ℕ → ℕ → ℕ → ℕ → Bool) → Bool
on_bits f = on_bit (λ x. on_bit (λ y. on_bit (λ z. on_bit (λ w. f x y z w))))

pub at_bits : (f : ℕ → ℕ → ℕ → ℕ → Bool) → T (on_bits f) → (x y z w : ℕ) → x < 2 → y < 2 → z < 2 → w < 2 → T (f x y z w)
at_bits f t x y z w hx hy hz hw =
    at-bit (λ w. f x y z w)
    (at-bit (λ z. on_bit (λ w. f x y z w))
    (at-bit (λ y. on_bit (λ z. on_bit (λ w. f x y z w)))
    (at-bit (λ x. on_bit (λ y. on_bit (λ z. on_bit (λ w. f x y z w)))) t x hx) y hy) z hz) w hw

pub same_on_bits : (f g : ℕ → ℕ → ℕ → ℕ → ℕ) → T (on_bits (λ x y z w. eqb (f x y z w) (g x y z w)))
    → (x y z w : ℕ) → x < 2 → y < 2 → z < 2 → w < 2 → f x y z w ≡ g x y z w
same_on_bits f g t x y z w hx hy hz hw =
    eqb→eq (f x y z w) (g x y z w) (at_bits (λ x y z w. eqb (f x y z w) (g x y z w)) t x y z w hx hy hz hw)

-- a test at each number below n, which antt computes
abbrev pub below : (ℕ → Bool) → ℕ → Bool
below f zero = true
below f (suc n) = both (f n) (below f n)

pub at_below : (f : ℕ → Bool) (n : ℕ) → T (below f n) → (i : ℕ) → i < n → T (f i)
at_below f zero t i h = absurd (omega arith)
at_below f (suc n) t i h =
    elim (cases_eq i n) [
      | inl e ↦ subst (λ (m : ℕ). T (f m)) (sym e) (both_left (f n) (below f n) t)
      | inr ne ↦ at_below f n (both_right (f n) (below f n) t) i (omega (arith, ne))
    ]

pub same_below : (f g : ℕ → ℕ) (n : ℕ) → T (below (λ i. eqb (f i) (g i)) n) → (i : ℕ) → i < n → f i ≡ g i
same_below f g n t i h = eqb→eq (f i) (g i) (at_below (λ i. eqb (f i) (g i)) n t i h)

-- shifts
pub bit_shr : (n j k : ℕ) → bit (n / 2 ^ j) k ≡ bit n (j + k)
unfolding bit
bit_shr n j k = ap (λ m. m % 2) (shr-shr n j k)

pub bit_mod : (n w p : ℕ) → p < w → bit (n % 2 ^ w) p ≡ bit n p
unfolding bit
bit_mod n w p h =
    let j : ℕ = w - p - 1 in
    let e : suc j + p ≡ w = omega arith in
    let f : n % 2 ^ w / 2 ^ p ≡ n / 2 ^ p % 2 ^ suc j = ap (λ v. n % 2 ^ v / 2 ^ p) (sym e) ∙ field_of n (suc j) p in
    let m : ℕ = n / 2 ^ p in
    let g : m % 2 ^ suc j ≡ (m / 2 % 2 ^ j) * 2 + m % 2 = ap (λ v. m % v) (pow-suc 2 j) ∙ mod-mul m (pow_pos j) (lit< tt) in
    ap (λ v. v % 2) (f ∙ g) ∙ omega arith

pub bit_shl : (n k p : ℕ) → k ≤ p → bit (n * 2 ^ k) p ≡ bit n (p - k)
unfolding bit
bit_shl n k p h =
    let e : k + (p - k) ≡ p = omega arith in
    ap (λ v. n * 2 ^ k / 2 ^ v % 2) (sym e) ∙ ap (λ v. v % 2) (sym (shr-shr (n * 2 ^ k) k (p - k)) ∙ ap (λ v. v / 2 ^ (p - k)) (shl-shr n k))

pub bit_shl_low : (n k p : ℕ) → p < k → bit (n * 2 ^ k) p ≡ 0
unfolding bit
bit_shl_low n k p h =
    let q : ℕ = k - p - 1 in
    let e : suc q + p ≡ k = omega arith in
    let f : n * 2 ^ k ≡ (n * 2 ^ q * 2) * 2 ^ p =
    ap (λ v. n * 2 ^ v) (sym e) ∙ ap (λ v. n * v) (pow-add 2 (suc q) p ∙ ap (λ v. v * 2 ^ p) (pow-suc 2 q)) ∙ sym (mul_assoc n (2 ^ q * 2) (2 ^ p)) ∙ ap (λ v. v * 2 ^ p) (sym (mul_assoc n (2 ^ q) 2)) in
    ap (λ v. v / 2 ^ p % 2) f ∙ ap (λ v. v % 2) (shl-shr (n * 2 ^ q * 2) p) ∙ omega arith

pub and_one : (x : ℕ) → x < 2 → bit_and x 1 ≡ x
and_one x h = same_below (λ x. bit_and x 1) (λ x. x) 2 tt x h

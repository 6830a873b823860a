-- Numbers and nibbles from their bits.
use Rattle.std.proofs.Common.{◌≡◌, ℕ, zero, suc, ◌+◌, ◌*◌, ◌/◌, ◌%◌, ◌^◌, ◌<◌, sym, refl, ap, ◌∙◌, ap₂, inl, inr, add-zero, mul_comm, add_comm, pow-suc, one-add, arith}
use Rattle.std.proofs.lemmas.Nat.{mod-mul-add, div-mul-add, mod-pow-add}
use Rattle.std.proofs.lemmas.Bool.{cases_eq}
use Rattle.saturnin.specs.Bits.{bit, nibble, number}
use Rattle.saturnin.proofs.Bits.{bit_mod, bit_shr, same_below, same_on_bits}

pub number_same : (f g : ℕ → ℕ) (n : ℕ) → ((k : ℕ) → k < n → f k ≡ g k) → number f n ≡ number g n
unfolding number
number_same f g zero e = refl
number_same f g (suc n) e = ap₂ ◌+◌ (number_same f g n (λ k h. e k (omega arith))) (ap (λ v. 2 ^ n * v) (e n (omega arith)))

pub number_bit : (x n : ℕ) → number (bit x) n ≡ x % 2 ^ n
unfolding number bit
number_bit x zero = omega arith
number_bit x (suc n) =
    ap (λ v. v + 2 ^ n * (x / 2 ^ n % 2)) (number_bit x n)
    ∙ (let e : x % 2 ^ (1 + n) ≡ (x / 2 ^ n % 2) * 2 ^ n + x % 2 ^ n = mod-pow-add x 1 n in
    let f : 2 ^ n * (x / 2 ^ n % 2) ≡ (x / 2 ^ n % 2) * 2 ^ n = mul_comm (2 ^ n) (x / 2 ^ n % 2) in
    let g : x % 2 ^ suc n ≡ x % 2 ^ (1 + n) = ap (λ v. x % 2 ^ v) (sym (one-add n)) in
    omega arith)

-- one more bit above a number that fits
pub weighed_lt : (a m b : ℕ) → a < m → b < 2 → a + m * b < m * 2
weighed_lt a m zero h l = omega arith
weighed_lt a m (suc zero) h l = omega arith
weighed_lt a m (suc (suc b)) h l = absurd (omega arith)

pub number_lt : (f : ℕ → ℕ) (n : ℕ) → ((k : ℕ) → f k < 2) → number f n < 2 ^ n
unfolding number
number_lt f zero h = omega arith
number_lt f (suc n) h = rw (pow-suc 2 n) (weighed_lt (number f n) (2 ^ n) (f n) (number_lt f n h) (h n))

lowest : (x : ℕ) → x < 2 → bit x 0 ≡ x
unfolding bit
lowest x h = same_below (λ x. bit x 0) (λ x. x) 2 tt x h

pub bit-number : (f : ℕ → ℕ) (n b : ℕ) → ((k : ℕ) → f k < 2) → b < n → bit (number f n) b ≡ f b
unfolding number
bit-number f zero b h l = absurd (omega arith)
bit-number f (suc n) b h l =
    let e : number f n + 2 ^ n * f n ≡ f n * 2 ^ n + number f n = ap (λ v. number f n + v) (mul_comm (2 ^ n) (f n)) ∙ add_comm (number f n) (f n * 2 ^ n) in
    let s : number f n < 2 ^ n = number_lt f n h in
    elim (cases_eq b n) [
      | inl q ↦
          ap₂ bit e (q ∙ sym (add-zero n)) ∙ sym (bit_shr (f n * 2 ^ n + number f n) n 0) ∙ ap (λ v. bit v 0) (div-mul-add (f n) (2 ^ n) (number f n) s)
          ∙ lowest (f n) (h n) ∙ ap f (sym q)
      | inr q ↦
          let m : b < n = omega (arith, q) in
          ap (λ v. bit v b) e ∙ sym (bit_mod (f n * 2 ^ n + number f n) n b m) ∙ ap (λ v. bit v b) (mod-mul-add (f n) (2 ^ n) (number f n) s) ∙ bit-number f n b h m
    ]

-- a nibble and its four bits
pub nibble_bits : (v : ℕ) → v < 16 → nibble (bit v 0) (bit v 1) (bit v 2) (bit v 3) ≡ v
unfolding nibble bit
nibble_bits v h = same_below (λ v. nibble (bit v 0) (bit v 1) (bit v 2) (bit v 3)) (λ v. v) 16 tt v h

pub nibble_lt : (x₀ x₁ x₂ x₃ : ℕ) → x₀ < 2 → x₁ < 2 → x₂ < 2 → x₃ < 2 → nibble x₀ x₁ x₂ x₃ < 16
unfolding nibble
nibble_lt x₀ x₁ x₂ x₃ a b c d = omega arith

-- what holds of 0 to 3
pub four : (P : ℕ → Type 0) → P 0 → P 1 → P 2 → P 3 → (y : ℕ) → y < 4 → P y
four P a b c d zero h = a
four P a b c d (suc zero) h = b
four P a b c d (suc (suc zero)) h = c
four P a b c d (suc (suc (suc zero))) h = d
four P a b c d (suc (suc (suc (suc y)))) h = absurd (omega arith)

-- bit y of the nibble of four bits
pub bit-nibble : (x : ℕ → ℕ) → ((k : ℕ) → x k < 2) → (y : ℕ) → y < 4 → bit (nibble (x 0) (x 1) (x 2) (x 3)) y ≡ x y
unfolding nibble bit
bit-nibble x h =
    four (λ y. bit (nibble (x 0) (x 1) (x 2) (x 3)) y ≡ x y)
    (same_on_bits (λ x y z w. bit (nibble x y z w) 0) (λ x y z w. x) tt _ _ _ _ (h 0) (h 1) (h 2) (h 3))
    (same_on_bits (λ x y z w. bit (nibble x y z w) 1) (λ x y z w. y) tt _ _ _ _ (h 0) (h 1) (h 2) (h 3))
    (same_on_bits (λ x y z w. bit (nibble x y z w) 2) (λ x y z w. z) tt _ _ _ _ (h 0) (h 1) (h 2) (h 3))
    (same_on_bits (λ x y z w. bit (nibble x y z w) 3) (λ x y z w. w) tt _ _ _ _ (h 0) (h 1) (h 2) (h 3))

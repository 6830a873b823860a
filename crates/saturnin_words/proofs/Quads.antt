-- S-boxes, α and sums on four words, at every bit at once: sixteen cases of four bits settle each.
use Rattle.std.proofs.Common.{◌≡◌, ℕ, eqb, ap, ◌∙◌}
use lib.Bits.{bit_and, bit_or, bit_xor}
use Rattle.saturnin.specs.Bits.{bit, nibble}
use Rattle.saturnin.specs.Layers.{σ₀, σ₁, α}
use Rattle.saturnin.specs.Back.{σ₀⁻¹, σ₁⁻¹, α⁻¹}
use Rattle.saturnin.proofs.Bits.{bit-bit_and, bit-bit_or, bit-xor, bit_lt, on_bits, at-bit, same_on_bits}
use Rattle.saturnin.proofs.Matrix.{nibble-xor}
use Rattle.saturnin_words.specs.Words.{across}

-- what the S-boxes share, handed on to k, and undone
abbrev pub sigma : {X : Type 0} → (ℕ → ℕ → ℕ → ℕ → X) → ℕ → ℕ → ℕ → ℕ → X
sigma k a b c d =
    let a1 : ℕ = bit_xor a (bit_and b c) in
    let b1 : ℕ = bit_xor b (bit_or a1 d) in
    let d1 : ℕ = bit_xor d (bit_or b1 c) in
    let c1 : ℕ = bit_xor c (bit_and b1 d1) in
    let b2 : ℕ = bit_xor b1 (bit_or a1 c1) in
    let a2 : ℕ = bit_xor a1 (bit_or b2 d1) in
    k a2 b2 c1 d1

abbrev pub unsigma : {X : Type 0} → (ℕ → ℕ → ℕ → ℕ → X) → ℕ → ℕ → ℕ → ℕ → X
unsigma k a b c d =
    let a1 : ℕ = bit_xor a (bit_or b d) in
    let b1 : ℕ = bit_xor b (bit_or a1 c) in
    let c1 : ℕ = bit_xor c (bit_and b1 d) in
    let d1 : ℕ = bit_xor d (bit_or b1 c1) in
    let b2 : ℕ = bit_xor b1 (bit_or a1 d1) in
    let a2 : ℕ = bit_xor a1 (bit_and b2 c1) in
    k a2 b2 c1 d1

module _ (a b c d p : ℕ) where
  pub sigma_zero : sigma (λ a b c d. across b c d a p) a b c d ≡ σ₀ (across a b c d p)
  unfolding across σ₀ nibble
  sigma_zero =
      simp (bit-xor, bit-bit_and, bit-bit_or)
      (same_on_bits (sigma (λ a b c d. nibble b c d a)) (λ a b c d. σ₀ (nibble a b c d)) tt _ _ _ _ (bit_lt a p) (bit_lt b p) (bit_lt c p) (bit_lt d p))

  pub sigma_one : sigma (λ a b c d. across d b a c p) a b c d ≡ σ₁ (across a b c d p)
  unfolding across σ₁ nibble
  sigma_one =
      simp (bit-xor, bit-bit_and, bit-bit_or)
      (same_on_bits (sigma (λ a b c d. nibble d b a c)) (λ a b c d. σ₁ (nibble a b c d)) tt _ _ _ _ (bit_lt a p) (bit_lt b p) (bit_lt c p) (bit_lt d p))

  pub unsigma_zero : unsigma (λ a b c d. across a b c d p) a b c d ≡ σ₀⁻¹ (across b c d a p)
  unfolding across σ₀⁻¹ nibble
  unsigma_zero =
      simp (bit-xor, bit-bit_and, bit-bit_or)
      (same_on_bits (unsigma nibble) (λ a b c d. σ₀⁻¹ (nibble b c d a)) tt _ _ _ _ (bit_lt a p) (bit_lt b p) (bit_lt c p) (bit_lt d p))

  pub unsigma_one : unsigma (λ a b c d. across a b c d p) a b c d ≡ σ₁⁻¹ (across d b a c p)
  unfolding across σ₁⁻¹ nibble
  unsigma_one =
      simp (bit-xor, bit-bit_and, bit-bit_or)
      (same_on_bits (unsigma nibble) (λ a b c d. σ₁⁻¹ (nibble d b a c)) tt _ _ _ _ (bit_lt a p) (bit_lt b p) (bit_lt c p) (bit_lt d p))

  pub across-α : across b c d (bit_xor a b) p ≡ α (across a b c d p)
  unfolding across α nibble bit
  across-α =
      ap (λ v. nibble (bit b p) (bit c p) (bit d p) v) (bit-xor a b p)
      ∙ same_on_bits (λ x y z w. nibble y z w (bit_xor x y)) (λ x y z w. α (nibble x y z w)) tt _ _ _ _ (bit_lt a p) (bit_lt b p) (bit_lt c p) (bit_lt d p)

  pub across-α⁻¹ : across (bit_xor d a) a b c p ≡ α⁻¹ (across a b c d p)
  unfolding across α⁻¹ nibble bit
  across-α⁻¹ =
      ap (λ v. nibble v (bit a p) (bit b p) (bit c p)) (bit-xor d a p)
      ∙ same_on_bits (λ x y z w. nibble (bit_xor w x) x y z) (λ x y z w. α⁻¹ (nibble x y z w)) tt _ _ _ _ (bit_lt a p) (bit_lt b p) (bit_lt c p) (bit_lt d p)

  -- a word added to the first of four
  pub across-first : (x : ℕ) → across (bit_xor a x) b c d p ≡ bit_xor (across a b c d p) (bit x p)
  unfolding across nibble
  across-first x =
      simp bit-xor
      (same_on_bits (λ b c d x. nibble (bit_xor (bit a p) x) b c d) (λ b c d x. bit_xor (nibble (bit a p) b c d) x)
      (at-bit (λ v. on_bits (λ b c d x. eqb (nibble (bit_xor v x) b c d) (bit_xor (nibble v b c d) x))) tt (bit a p) (bit_lt a p))
      _ _ _ _ (bit_lt b p) (bit_lt c p) (bit_lt d p) (bit_lt x p))

pub across-xor : (a b c d a' b' c' d' p : ℕ)
    → across (bit_xor a a') (bit_xor b b') (bit_xor c c') (bit_xor d d') p ≡ bit_xor (across a b c d p) (across a' b' c' d' p)
unfolding across
across-xor a b c d a' b' c' d' p =
    simp bit-xor (nibble-xor _ _ _ _ _ _ _ _ (bit_lt a p) (bit_lt b p) (bit_lt c p) (bit_lt d p) (bit_lt a' p) (bit_lt b' p) (bit_lt c' p) (bit_lt d' p))

-- The matrix on all columns at once. Bit p of a word and bit q, half a word away, belong to one column, and both halves go
-- through the same steps.
use Rattle.std.proofs.Common.{◌≡◌, ℕ, ◌+◌, ◌*◌, ◌%◌, ◌<◌, ap, ◌∙◌, ap₂, arith}
use lib.Bits.{bit_xor}
use Rattle.octets.specs.Lists.{at}
use Rattle.saturnin.specs.Layers.{α, M_row, MC}
use Rattle.saturnin.specs.Back.{α⁻¹, M⁻¹_row, MC⁻¹}
use Rattle.saturnin.proofs.Matrix.{row0, row1, row2, row3}
use Rattle.saturnin_words.specs.Words.{quad, cube_of}
use Rattle.saturnin_words.specs.declared.state.State.{State}
use Rattle.saturnin_words.proofs.Places.{by_rows, column}

module _ (r w : State) where
  E : ℕ → ℕ
  E p = quad w.even p

  O : ℕ → ℕ
  O p = quad w.odd p

  -- forward: e1 and o1 are what stands in between
  module _ (e1 o1 : ℕ → ℕ)
      (he1 : (p : ℕ) → e1 p ≡ bit_xor (quad w.even p) (quad w.odd p))
      (ho1 : (p : ℕ) → p < 32 → o1 p ≡ bit_xor (α (quad w.odd p)) (e1 ((p + 16) % 32)))
      (he : (p : ℕ) → quad r.even p ≡ bit_xor (α (α (e1 p))) (o1 p))
      (ho : (p : ℕ) → p < 32 → quad r.odd p ≡ bit_xor (o1 p) (quad r.even ((p + 16) % 32))) where
    half_odd : (p q : ℕ) → p < 32 → (p + 16) % 32 ≡ q → o1 p ≡ bit_xor (α (O p)) (bit_xor (E q) (O q))
    unfolding E O
    half_odd p q h e = ho1 p h ∙ ap (bit_xor (α (O p))) (ap e1 e ∙ he1 q)

    even : (p q : ℕ) → p < 32 → (p + 16) % 32 ≡ q → quad r.even p ≡ bit_xor (α (α (bit_xor (E p) (O p)))) (bit_xor (α (O p)) (bit_xor (E q) (O q)))
    unfolding E O
    even p q h e = he p ∙ ap₂ bit_xor (ap (λ v. α (α v)) (he1 p)) (half_odd p q h e)

    odd : (p q : ℕ) → p < 32 → q < 32 → (p + 16) % 32 ≡ q → (q + 16) % 32 ≡ p → quad r.odd p
        ≡ bit_xor (bit_xor (α (O p)) (bit_xor (E q) (O q))) (bit_xor (α (α (bit_xor (E q) (O q)))) (bit_xor (α (O q)) (bit_xor (E p) (O p))))
    odd p q h l e f = ho p h ∙ ap₂ bit_xor (half_odd p q h e) (ap (quad r.even) e ∙ even q p l f)

    pub mixed : cube_of r ≡ MC (cube_of w)
    unfolding MC E O
    mixed = by_rows r (λ y b. M_row y (at (cube_of w) (4 * b)) (at (cube_of w) (4 * b + 1)) (at (cube_of w) (4 * b + 2)) (at (cube_of w) (4 * b + 3)))
        (λ b h. even b (b + 16) (omega arith) (omega arith) ∙ row0 _ _ _ _ ∙ column (M_row 0) w b h)
        (λ b h. odd b (b + 16) (omega arith) (omega arith) (omega arith) (omega arith) ∙ row1 _ _ _ _ ∙ column (M_row 1) w b h)
        (λ b h. even (b + 16) b (omega arith) (omega arith) ∙ row2 _ _ _ _ ∙ column (M_row 2) w b h)
        (λ b h. odd (b + 16) b (omega arith) (omega arith) (omega arith) (omega arith) ∙ row3 _ _ _ _ ∙ column (M_row 3) w b h)

  -- back
  module _ (o1 e1 : ℕ → ℕ)
      (ho1 : (p : ℕ) → p < 32 → o1 p ≡ bit_xor (quad w.odd p) (quad w.even ((p + 16) % 32)))
      (he1 : (p : ℕ) → e1 p ≡ α⁻¹ (α⁻¹ (bit_xor (quad w.even p) (o1 p))))
      (ho : (p : ℕ) → p < 32 → quad r.odd p ≡ α⁻¹ (bit_xor (o1 p) (e1 ((p + 16) % 32))))
      (he : (p : ℕ) → quad r.even p ≡ bit_xor (e1 p) (quad r.odd p)) where
    first : (p q : ℕ) → p < 32 → (p + 16) % 32 ≡ q → o1 p ≡ bit_xor (O p) (E q)
    unfolding E O
    first p q h e = ho1 p h ∙ ap (λ v. bit_xor (O p) (E v)) e

    second : (p q : ℕ) → p < 32 → (p + 16) % 32 ≡ q → e1 p ≡ α⁻¹ (α⁻¹ (bit_xor (E p) (bit_xor (O p) (E q))))
    unfolding E O
    second p q h e = he1 p ∙ ap (λ v. α⁻¹ (α⁻¹ (bit_xor (E p) v))) (first p q h e)

    odd⁻¹ : (p q : ℕ) → p < 32 → q < 32 → (p + 16) % 32 ≡ q → (q + 16) % 32 ≡ p
        → quad r.odd p ≡ α⁻¹ (bit_xor (bit_xor (O p) (E q)) (α⁻¹ (α⁻¹ (bit_xor (E q) (bit_xor (O q) (E p))))))
    odd⁻¹ p q h l e f = ho p h ∙ ap α⁻¹ (ap₂ bit_xor (first p q h e) (ap e1 e ∙ second q p l f))

    even⁻¹ : (p q : ℕ) → p < 32 → q < 32 → (p + 16) % 32 ≡ q → (q + 16) % 32 ≡ p
        → quad r.even p ≡ bit_xor (α⁻¹ (α⁻¹ (bit_xor (E p) (bit_xor (O p) (E q))))) (α⁻¹ (bit_xor (bit_xor (O p) (E q)) (α⁻¹ (α⁻¹ (bit_xor (E q) (bit_xor (O q) (E p)))))))
    even⁻¹ p q h l e f = he p ∙ ap₂ bit_xor (second p q h e) (odd⁻¹ p q h l e f)

    pub unmixed : cube_of r ≡ MC⁻¹ (cube_of w)
    unfolding MC⁻¹ M⁻¹_row E O
    unmixed = by_rows r (λ y b. M⁻¹_row y (at (cube_of w) (4 * b)) (at (cube_of w) (4 * b + 1)) (at (cube_of w) (4 * b + 2)) (at (cube_of w) (4 * b + 3)))
        (λ b h. even⁻¹ b (b + 16) (omega arith) (omega arith) (omega arith) (omega arith) ∙ column (M⁻¹_row 0) w b h)
        (λ b h. odd⁻¹ b (b + 16) (omega arith) (omega arith) (omega arith) (omega arith) ∙ column (M⁻¹_row 1) w b h)
        (λ b h. even⁻¹ (b + 16) b (omega arith) (omega arith) (omega arith) (omega arith) ∙ column (M⁻¹_row 2) w b h)
        (λ b h. odd⁻¹ (b + 16) b (omega arith) (omega arith) (omega arith) (omega arith) ∙ column (M⁻¹_row 3) w b h)

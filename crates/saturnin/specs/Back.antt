-- The cipher turned back, step by step.
use Rattle.std.specs.Prelude.{ℕ, zero, suc, ◌+◌, ◌*◌, ◌/◌, ◌%◌, cond, List, [], ◌∷◌, ◌==◌, bit_xor}
use Rattle.saturnin.specs.Bits.{bit, nibble}
use Rattle.octets.specs.Lists.{at}
use Rattle.saturnin.specs.Cube.{Cube, cube, to_cube, from_cube}
use Rattle.saturnin.specs.Layers.{SR, SR⁻¹, add}
use Rattle.saturnin.specs.Rounds.{add_subkey}

unfoldable pub σ₀⁻¹ : ℕ → ℕ
σ₀⁻¹ n = at (0 ∷ 3 ∷ 12 ∷ 14 ∷ 5 ∷ 11 ∷ 1 ∷ 6 ∷ 9 ∷ 8 ∷ 13 ∷ 15 ∷ 10 ∷ 7 ∷ 2 ∷ 4 ∷ []) n

unfoldable pub σ₁⁻¹ : ℕ → ℕ
σ₁⁻¹ n = at (0 ∷ 5 ∷ 3 ∷ 11 ∷ 9 ∷ 10 ∷ 8 ∷ 7 ∷ 12 ∷ 1 ∷ 14 ∷ 6 ∷ 13 ∷ 2 ∷ 15 ∷ 4 ∷ []) n

unfoldable pub S⁻¹ : Cube → Cube
S⁻¹ s = cube (λ i. cond (i % 2 == 0) (σ₀⁻¹ (at s i)) (σ₁⁻¹ (at s i)))

unfoldable pub α⁻¹ : ℕ → ℕ
α⁻¹ n = nibble (bit_xor (bit n 3) (bit n 0)) (bit n 0) (bit n 1) (bit n 2)

-- row y of the inverse of M at (a, b, c, d): the network of M from its end to its start
unfoldable pub M⁻¹_row : (y a b c d : ℕ) → ℕ
M⁻¹_row y a b c d =
    let d₁ : ℕ = bit_xor d a in
    let b₁ : ℕ = bit_xor b c in
    let a₁ : ℕ = α⁻¹ (α⁻¹ (bit_xor a b₁)) in
    let c₁ : ℕ = α⁻¹ (α⁻¹ (bit_xor c d₁)) in
    let d₂ : ℕ = α⁻¹ (bit_xor d₁ a₁) in
    let b₂ : ℕ = α⁻¹ (bit_xor b₁ c₁) in
    at (bit_xor a₁ b₂ ∷ b₂ ∷ bit_xor c₁ d₂ ∷ d₂ ∷ []) y

unfoldable pub MC⁻¹ : Cube → Cube
MC⁻¹ s = cube (λ i.
    let p : ℕ = 4 * (i / 4) in
    M⁻¹_row (i % 4) (at s p) (at s (p + 1)) (at s (p + 2)) (at s (p + 3)))

-- round r undone; adding the sub-key once more takes it away
unfoldable pub round⁻¹ : (k : Cube) (D R r : ℕ) → Cube → Cube
round⁻¹ k D R r s = S⁻¹ (SR⁻¹ r (MC⁻¹ (SR r (add_subkey k D R r s))))

-- the first n rounds undone, the last of them first
unfoldable pub rounds⁻¹ : (k : Cube) (D R n : ℕ) → Cube → Cube
rounds⁻¹ k D R zero s = s
rounds⁻¹ k D R (suc n) s = rounds⁻¹ k D R n (round⁻¹ k D R n s)

unfoldable pub back : (key : List ℕ) (D R : ℕ) (block : List ℕ) → List ℕ
back key D R block =
    let k : Cube = to_cube key in
    from_cube (add k (rounds⁻¹ k D R (2 * R) (to_cube block)))

-- The steps of a round, each on the whole cube.
use Rattle.std.specs.Prelude.{ℕ, ◌+◌, ◌-◌, ◌*◌, ◌/◌, ◌%◌, cond, List, [], ◌∷◌, ◌==◌, bit_xor}
use Rattle.saturnin.specs.Bits.{bit, nibble}
use Rattle.octets.specs.Lists.{at}
use Rattle.saturnin.specs.Cube.{Cube, cube, index, x_of, y_of, z_of}

-- the S-boxes, by their tables: σ₀ at even indices, σ₁ at odd ones
unfoldable pub σ₀ : ℕ → ℕ
σ₀ n = at (0 ∷ 6 ∷ 14 ∷ 1 ∷ 15 ∷ 4 ∷ 7 ∷ 13 ∷ 9 ∷ 8 ∷ 12 ∷ 5 ∷ 2 ∷ 10 ∷ 3 ∷ 11 ∷ []) n

unfoldable pub σ₁ : ℕ → ℕ
σ₁ n = at (0 ∷ 9 ∷ 13 ∷ 2 ∷ 15 ∷ 1 ∷ 11 ∷ 7 ∷ 6 ∷ 4 ∷ 5 ∷ 3 ∷ 8 ∷ 12 ∷ 10 ∷ 14 ∷ []) n

unfoldable pub S : Cube → Cube
S s = cube (λ i. cond (i % 2 == 0) (σ₀ (at s i)) (σ₁ (at s i)))

-- the shift in each slice takes nibble (x, y, z) to (x + y mod 4, y, z), and the way back takes it
-- from there
abbrev pub slice_to : ℕ → ℕ
slice_to i = index ((x_of i + y_of i) % 4) (y_of i) (z_of i)

abbrev pub slice_from : ℕ → ℕ
slice_from i = index ((x_of i + 4 - y_of i) % 4) (y_of i) (z_of i)

unfoldable pub SR_slice : Cube → Cube
SR_slice s = cube (λ i. at s (slice_from i))

unfoldable pub SR_slice⁻¹ : Cube → Cube
SR_slice⁻¹ s = cube (λ i. at s (slice_to i))

-- the shift in each sheet takes nibble (x, y, z) to (x, y, z + y mod 4), and the way back takes it
-- from there
abbrev pub sheet_to : ℕ → ℕ
sheet_to i = index (x_of i) (y_of i) ((z_of i + y_of i) % 4)

abbrev pub sheet_from : ℕ → ℕ
sheet_from i = index (x_of i) (y_of i) ((z_of i + 4 - y_of i) % 4)

unfoldable pub SR_sheet : Cube → Cube
SR_sheet s = cube (λ i. at s (sheet_from i))

unfoldable pub SR_sheet⁻¹ : Cube → Cube
SR_sheet⁻¹ s = cube (λ i. at s (sheet_to i))

-- the shift of round r: in slices where r mod 4 is 1, in sheets where it is 3, and none in even
-- rounds
unfoldable pub SR : (r : ℕ) → Cube → Cube
SR r s = cond (r % 4 == 1) (SR_slice s) (cond (r % 4 == 3) (SR_sheet s) s)

unfoldable pub SR⁻¹ : (r : ℕ) → Cube → Cube
SR⁻¹ r s = cond (r % 4 == 1) (SR_slice⁻¹ s) (cond (r % 4 == 3) (SR_sheet⁻¹ s) s)

-- α takes the bits x₀, x₁, x₂, x₃ to x₁, x₂, x₃, x₀ + x₁; the sum of bits is XOR
unfoldable pub α : ℕ → ℕ
α n = nibble (bit n 1) (bit n 2) (bit n 3) (bit_xor (bit n 0) (bit n 1))

abbrev pub α² : ℕ → ℕ
α² n = α (α n)

-- the sum of nibbles
unfoldable pub ⊕ : List ℕ → ℕ
⊕ [] = 0
⊕ (x ∷ xs) = bit_xor x (⊕ xs)

-- row y of the matrix M at the column (a, b, c, d)
unfoldable pub M_row : (y a b c d : ℕ) → ℕ
M_row y a b c d = at (
    ⊕ (α² a ∷ α² b ∷ α b ∷ c ∷ d ∷ [])
    ∷ ⊕ (a ∷ α b ∷ b ∷ α² c ∷ c ∷ α² d ∷ α d ∷ d ∷ [])
    ∷ ⊕ (a ∷ b ∷ α² c ∷ α² d ∷ α d ∷ [])
    ∷ ⊕ (α² a ∷ a ∷ α² b ∷ α b ∷ b ∷ c ∷ α d ∷ d ∷ [])
    ∷ []) y

-- M on every column; the column of nibble i is the four nibbles from 4 (i div 4) on
unfoldable pub MC : Cube → Cube
MC s = cube (λ i.
    let p : ℕ = 4 * (i / 4) in
    M_row (i % 4) (at s p) (at s (p + 1)) (at s (p + 2)) (at s (p + 3)))

-- XOR of two cubes
unfoldable pub add : Cube → Cube → Cube
add k s = cube (λ i. bit_xor (at s i) (at k i))

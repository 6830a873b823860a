-- The round constants, the sub-keys, the rounds, and the cipher.
use Rattle.std.specs.Prelude.{ℕ, zero, suc, ◌+◌, ◌*◌, ◌/◌, ◌%◌, cond, List, [], ◌∷◌, ◌==◌}
use Rattle.std.specs.Prelude.{bit_xor, nat_lt}
use Rattle.saturnin.specs.Bits.{bit}
use Rattle.octets.specs.Lists.{at}
use Rattle.saturnin.specs.Cube.{Cube, cube, to_cube, from_cube}
use Rattle.saturnin.specs.Layers.{S, SR, SR⁻¹, MC, add}

-- a clock doubles a 16-bit word; if its top bit was 1, the polynomial is added
unfoldable pub clock : (poly c : ℕ) → ℕ
clock poly c = cond (nat_lt c 0x8000) (2 * c) (bit_xor (2 * c) poly)

-- n clocks
unfoldable pub clocked : (poly c n : ℕ) → ℕ
clocked poly c zero = c
clocked poly c (suc n) = clock poly (clocked poly c n)

-- both constants begin as seven ones, R in five bits, D in four
abbrev pub start : (D R : ℕ) → ℕ
start D R = 0xFE00 + 16 * R + D

-- the constants of super-round i, which are clocked 16 times in each super-round
abbrev pub RC₀ : (D R i : ℕ) → ℕ
RC₀ D R i = clocked 0x1002D (start D R) (16 * (i + 1))

abbrev pub RC₁ : (D R i : ℕ) → ℕ
RC₁ D R i = clocked 0x10053 (start D R) (16 * (i + 1))

-- bit b of RC₀ stands at bit 0 of nibble 4b, and bit b of RC₁ at bit 0 of nibble 4b + 2
unfoldable pub constants : (c₀ c₁ : ℕ) → Cube
constants c₀ c₁ = cube (λ i. at (bit c₀ (i / 4) ∷ 0 ∷ bit c₁ (i / 4) ∷ 0 ∷ []) (i % 4))

-- the rotated key: nibble i receives key nibble i + 20 mod 64
unfoldable pub rotated : Cube → Cube
rotated k = cube (λ i. at k ((i + 20) % 64))

-- the key of an odd round r: as it is where r mod 4 is 3, else rotated
unfoldable pub round_key : (k : Cube) (r : ℕ) → Cube
round_key k r = cond (r % 4 == 3) k (rotated k)

-- odd round r, the second of super-round r div 2, adds its constants and its key; an even round
-- adds nothing
unfoldable pub add_subkey : (k : Cube) (D R r : ℕ) → Cube → Cube
add_subkey k D R r s = cond (r % 2 == 0) s
    (add (add (constants (RC₀ D R (r / 2)) (RC₁ D R (r / 2))) (round_key k r)) s)

unfoldable pub round : (k : Cube) (D R r : ℕ) → Cube → Cube
round k D R r s = add_subkey k D R r (SR⁻¹ r (MC (SR r (S s))))

-- the first n rounds
unfoldable pub rounds : (k : Cube) (D R n : ℕ) → Cube → Cube
rounds k D R zero s = s
rounds k D R (suc n) s = round k D R n (rounds k D R n s)

-- the cipher: the key is added, and then come R super-rounds
unfoldable pub forward : (key : List ℕ) (D R : ℕ) (block : List ℕ) → List ℕ
forward key D R block =
    let k : Cube = to_cube key in
    from_cube (rounds k D R (2 * R) (add k (to_cube block)))

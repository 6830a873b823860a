-- The cube in eight 32-bit words. Word j is register j, and register j + 8 in the upper half: words
-- 0 to 3 hold the nibbles of even index, words 4 to 7 those of odd index.
use Rattle.std.specs.Prelude.{ℕ, ◌+◌, ◌-◌, ◌*◌, ◌/◌, ◌%◌, cond, ◌==◌, nat_lt}
use Rattle.saturnin.specs.Bits.{bit, nibble}
use Rattle.saturnin.specs.Cube.{Cube, cube}
use Rattle.saturnin_words.specs.declared.quad.Quad.{Quad}
use Rattle.saturnin_words.specs.declared.state.State.{State}

-- the nibble in bit p of four words
unfoldable pub across : (a b c d p : ℕ) → ℕ
across a b c d p = nibble (bit a p) (bit b p) (bit c p) (bit d p)

abbrev pub quad : Quad → (p : ℕ) → ℕ
quad q p = across q.a q.b q.c q.d p

-- the bit at which nibble i stands: rows 0 and 1 in the lower halves, rows 2 and 3 in the upper
abbrev pub stands_at : (i : ℕ) → ℕ
stands_at i = i / 4 + 16 * (i % 4 / 2)

unfoldable pub cube_of : State → Cube
cube_of w = cube (λ i. cond (i % 2 == 0) (quad w.even (stands_at i)) (quad w.odd (stands_at i)))

-- where a row whose bits turn so many places up, in groups of `width`, takes its bit b from
abbrev pub in_row : (width places b : ℕ) → ℕ
in_row width places b = width * (b / width) + (b % width + width - places) % width

-- the same of a word, which has one row in its lower half and one in its upper half, and of a cube,
-- whose bits of row y turn `places y` up
abbrev pub in_word : (width low high p : ℕ) → ℕ
in_word width low high p =
    cond (nat_lt p 16) (in_row width low p) (16 + in_row width high (p - 16))

abbrev pub in_cube : (width : ℕ) (places : ℕ → ℕ) (i : ℕ) → ℕ
in_cube width places i = i % 4 + 4 * in_row width (places (i % 4)) (i / 4)

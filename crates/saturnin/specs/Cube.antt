-- A block, a key or a state, in its representations: 32 bytes, sixteen 16-bit registers, eight
-- 32-bit words, and the cube of 4 by 4 by 4 nibbles.
use Rattle.std.specs.Prelude.{ℕ, ◌+◌, ◌*◌, ◌/◌, ◌%◌, List, [], ◌∷◌}
use Rattle.octets.specs.Lists.{at, table}
use Rattle.saturnin.specs.Bits.{bit, nibble, number}

-- a cube is the list of its 64 nibbles by index; nibble (x, y, z) has index y + 4x + 16z
abbrev pub Cube : Type 0
Cube = List ℕ

abbrev pub cube : (ℕ → ℕ) → Cube
cube f = table 64 f

abbrev pub index : (x y z : ℕ) → ℕ
index x y z = y + 4 * x + 16 * z

abbrev pub x_of : ℕ → ℕ
x_of i = i / 4 % 4

abbrev pub y_of : ℕ → ℕ
y_of i = i % 4

abbrev pub z_of : ℕ → ℕ
z_of i = i / 16

-- register g of 32 bytes, low byte first
unfoldable pub register : (bytes : List ℕ) (g : ℕ) → ℕ
register bytes g = at bytes (2 * g) + 256 * at bytes (2 * g + 1)

-- word j of 32 bytes: register j, and register j + 8 in the upper half
unfoldable pub word : (bytes : List ℕ) (j : ℕ) → ℕ
word bytes j = register bytes j + 65536 * register bytes (j + 8)

-- bit k of nibble (b mod 4, j, b div 4), whose index is j + 4b, is bit b of register 4j + k
unfoldable pub to_cube : (bytes : List ℕ) → Cube
to_cube bytes = cube (λ i.
    let bit_of : ℕ → ℕ = λ k. bit (register bytes (4 * (i % 4) + k)) (i / 4) in
    nibble (bit_of 0) (bit_of 1) (bit_of 2) (bit_of 3))

-- and back: register g of a cube, and the bytes of its sixteen registers
unfoldable pub cube_register : Cube → (g : ℕ) → ℕ
cube_register s g = number (λ b. bit (at s (g / 4 + 4 * b)) (g % 4)) 16

unfoldable pub from_cube : Cube → List ℕ
from_cube s = table 32 (λ m.
    at (cube_register s (m / 2) % 256 ∷ cube_register s (m / 2) / 256 ∷ []) (m % 2))

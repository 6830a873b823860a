-- Steps of the cipher with a parameter in place of what differs between them.
use Rattle.std.specs.Prelude.{ℕ, ◌+◌, ◌*◌, ◌%◌, List}
use Rattle.saturnin.specs.Bits.{bit, nibble}
use Rattle.octets.specs.Lists.{at}
use Rattle.saturnin.specs.Cube.{index, x_of, y_of, z_of}

-- the index from which nibble i comes, where at each step of y the slices turn by X and the sheets
-- by Z
abbrev pub turned_from : (X Z i : ℕ) → ℕ
turned_from X Z i = index ((x_of i + X * y_of i) % 4) (y_of i) ((z_of i + Z * y_of i) % 4)

-- nibble y of row b of sixteen registers
unfoldable pub nibble_in : (registers : List ℕ) (b y : ℕ) → ℕ
nibble_in registers b y =
    let bit_of : ℕ → ℕ = λ k. bit (at registers (4 * y + k)) b in
    nibble (bit_of 0) (bit_of 1) (bit_of 2) (bit_of 3)

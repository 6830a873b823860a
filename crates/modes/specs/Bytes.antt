-- Texts of bytes: XOR, padding, blocks.
use Rattle.std.specs.Prelude.{ℕ, ◌-◌, ◌*◌, ◌/◌, List, [], ◌∷◌, ◌++◌, length, take, drop, bit_xor}
use Rattle.octets.specs.Octets.{zeros}

-- byte by byte, as far as the shorter goes
unfoldable pub xor : List ℕ → List ℕ → List ℕ
xor [] bs = []
xor (a ∷ more) [] = []
xor (a ∷ more) (b ∷ bs) = bit_xor a b ∷ xor more bs

-- the byte 0x80 and then zeros, up to the size
unfoldable pub padded : (size : ℕ) → List ℕ → List ℕ
padded size bs = bs ++ (0x80 ∷ zeros (size - 1 - length bs))

-- how many full blocks a text has, and block i of them, from 0
abbrev pub full_blocks : List ℕ → ℕ
full_blocks bytes = length bytes / 32

unfoldable pub block_at : List ℕ → ℕ → List ℕ
block_at bytes i = take 32 (drop (32 * i) bytes)

-- what is left after the full blocks: 0 to 31 bytes
unfoldable pub tail_of : List ℕ → List ℕ
tail_of bytes = drop (32 * full_blocks bytes) bytes

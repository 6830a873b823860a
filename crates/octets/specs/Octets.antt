-- Texts of bytes: zeros, numbers in big-endian order, parts, and what a write leaves.
use Rattle.std.specs.Prelude.{ℕ, zero, suc, ◌+◌, ◌*◌, ◌/◌, ◌%◌, ◌<◌, List, [], ◌∷◌, ◌++◌, length}
use Rattle.std.specs.Prelude.{take, drop, replicate, slice_index}

-- each is a byte
abbrev pub Octets : List ℕ → Type 0
Octets bs = (i : ℕ) → slice_index bs i < 256

abbrev pub zeros : ℕ → List ℕ
zeros n = replicate n 0

-- n in so many bytes, the most significant first
unfoldable pub big_endian : (size n : ℕ) → List ℕ
big_endian zero n = []
big_endian (suc k) n = big_endian k (n / 256) ++ (n % 256 ∷ [])

-- the number that bytes spell, the most significant first, after what stands before them
unfoldable pub spelt : List ℕ → (before : ℕ) → ℕ
spelt [] before = before
spelt (b ∷ bs) before = spelt bs (before * 256 + b)

-- so many bytes of a text, from one of them on
abbrev pub part : (from size : ℕ) → List ℕ → List ℕ
part from size bytes = take size (drop from bytes)

-- a memory after bytes were written into it, from one place on
abbrev pub written : (from : ℕ) (bytes memory : List ℕ) → List ℕ
written from bytes memory = take from memory ++ (bytes ++ drop (from + length bytes) memory)

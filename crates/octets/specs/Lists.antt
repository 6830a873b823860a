-- Lists of numbers by their elements.
use Rattle.std.specs.Prelude.{ℕ, List, map, slice_index}
use Rattle.std.specs.List.{range_with_len}

-- element i of a list of numbers
abbrev pub at : List ℕ → ℕ → ℕ
at s i = slice_index s i

-- the list of the n numbers f 0, f 1, ..
unfoldable pub table : (n : ℕ) (f : ℕ → ℕ) → List ℕ
table n f = map f (range_with_len 0 n)

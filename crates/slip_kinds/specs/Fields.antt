-- Messages of a kind byte and numbers.
use Rattle.std.specs.Prelude.{ℕ, Bool, ◌&&◌, nat_le, cond, List, ◌∷◌, Option, Some, None}
use Rattle.std.specs.List.{list_all, flat_map}
use Rattle.octets.specs.Octets.{big_endian}

-- a number of a content, with the least and the greatest that it may be, and the bytes that it
-- takes in the message
pub record Field : Type 0 where
  pub number : ℕ
  pub least : ℕ
  pub greatest : ℕ
  pub size : ℕ

abbrev pub field : (number least greatest size : ℕ) → Field
field n l g s = record { number = n; least = l; greatest = g; size = s }

abbrev pub in_range : Field → Bool
in_range f = nat_le f.least f.number && nat_le f.number f.greatest

abbrev pub bytes_of : Field → List ℕ
bytes_of f = big_endian f.size f.number

-- the byte of the kind, and then the numbers in order, big-endian; none where a number is outside
-- its range
abbrev pub message : (kind : ℕ) (fields : List Field) → Option (List ℕ)
message kind fields =
    cond (list_all in_range fields) (Some (kind ∷ flat_map bytes_of fields)) None

-- The record of a sheet, 1,024 bytes, and a slip, 48 bytes: where their parts lie.
use Rattle.std.specs.Prelude.{◌≡◌, ℕ, ◌+◌, ◌-◌, ◌≤◌, List, ◌++◌, take, drop}
use Rattle.octets.specs.Octets.{zeros, spelt, part}

-- what an empty place holds
abbrev pub empty : List ℕ
empty = zeros 1024

-- A record begins with a nonce of 16 bytes, the last 8 of which are a number.
abbrev pub number_at : ℕ
number_at = 8

-- Then comes a head of 48 bytes: a label of 46, and in 2 the length of the message.
abbrev pub head_at : ℕ
head_at = 16

abbrev pub length_at : ℕ
length_at = 62

-- Then comes the text, which is as long as the message, and at most 928 bytes.
abbrev pub text_at : ℕ
text_at = 64

abbrev pub text_room : ℕ
text_room = 928

-- Last comes a tag of 32 bytes; between text and tag lies the filling.
abbrev pub tag_at : ℕ
tag_at = 992

-- A slip is a nonce of 16 bytes, and then a block of 32.
abbrev pub block_at : ℕ
block_at = 16

-- the parts of a record, whatever it holds
abbrev pub nonce_in : (bytes : List ℕ) → List ℕ
nonce_in bytes = take head_at bytes

abbrev pub number_in : (bytes : List ℕ) → ℕ
number_in bytes = spelt (part number_at 8 bytes) 0

abbrev pub head_in : (bytes : List ℕ) → List ℕ
head_in bytes = part head_at 48 bytes

abbrev pub label_in : (bytes : List ℕ) → List ℕ
label_in bytes = part head_at 46 bytes

abbrev pub length_in : (bytes : List ℕ) → ℕ
length_in bytes = spelt (part length_at 2 bytes) 0

abbrev pub text_in : (bytes : List ℕ) → List ℕ
text_in bytes = part text_at (length_in bytes) bytes

abbrev pub filling_in : (bytes : List ℕ) → List ℕ
filling_in bytes = part (text_at + length_in bytes) (text_room - length_in bytes) bytes

abbrev pub tag_in : (bytes : List ℕ) → List ℕ
tag_in bytes = drop tag_at bytes

-- the length is within its limit, and the filling is zero
abbrev pub WellFormed : (bytes : List ℕ) → Type 0
WellFormed bytes =
    (length_in bytes ≤ text_room) × (filling_in bytes ≡ zeros (text_room - length_in bytes))

-- a record with the text in place of its own
abbrev pub with_text : (text bytes : List ℕ) → List ℕ
with_text text bytes =
    take text_at bytes ++ (text ++ drop (text_at + length_in bytes) bytes)

-- the parts of a slip
abbrev pub slip_nonce : (bytes : List ℕ) → List ℕ
slip_nonce bytes = take block_at bytes

abbrev pub slip_block : (bytes : List ℕ) → List ℕ
slip_block bytes = drop block_at bytes

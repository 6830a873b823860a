-- Sheets and slips as bytes, over any block function f.
use Rattle.std.specs.Prelude.{ℕ, ◌-◌, List, ◌++◌, length}
use Rattle.octets.specs.Octets.{zeros, big_endian}
use Rattle.cipher.specs.Meaning.{BlockFunction}
use Rattle.modes.specs.Cascade.{ctr, tag}
use Rattle.modes.specs.Short.{short}
use Rattle.records.specs.Records.{text_room, nonce_in, head_in, text_in, with_text}

-- the sign of a box (8 bytes) and a number (8)
abbrev pub nonce_of : (sign : List ℕ) (number : ℕ) → List ℕ
nonce_of sign number = sign ++ big_endian 8 number

-- the label (46 bytes) and the length of the message (2)
abbrev pub head_of : (label message : List ℕ) → List ℕ
head_of label message = label ++ big_endian 2 (length message)

-- the associated data of a sheet: its place (4 bytes), and the head of its record
abbrev pub associated : (place : ℕ) (head : List ℕ) → List ℕ
associated place head = big_endian 4 place ++ head

module _ (f : BlockFunction) (key : List ℕ) where
  -- the record of a sheet: nonce, head, ciphertext, zeros as filling, tag
  abbrev pub sheet_under : (nonce : List ℕ) (place : ℕ) (label message : List ℕ) → List ℕ
  sheet_under nonce place label message =
      let head : List ℕ = head_of label message in
      let text : List ℕ = ctr f key nonce message in
      nonce
      ++ (head
      ++ (text
      ++ (zeros (text_room - length message)
      ++ tag f key nonce (associated place head) text)))

  abbrev pub sheet : (sign : List ℕ) (number place : ℕ) (label message : List ℕ) → List ℕ
  sheet sign number place label message = sheet_under (nonce_of sign number) place label message

  -- a slip: the nonce and the block of Short
  abbrev pub slip_under : (nonce message : List ℕ) → List ℕ
  slip_under nonce message = nonce ++ short f key nonce message

  abbrev pub slip : (sign : List ℕ) (number : ℕ) (message : List ℕ) → List ℕ
  slip sign number message = slip_under (nonce_of sign number) message

  -- the tag that a record at a place should have
  abbrev pub right_tag : (place : ℕ) (bytes : List ℕ) → List ℕ
  right_tag place bytes =
      tag f key (nonce_in bytes) (associated place (head_in bytes)) (text_in bytes)

  -- the message of a record
  abbrev pub message_in : (bytes : List ℕ) → List ℕ
  message_in bytes = ctr f key (nonce_in bytes) (text_in bytes)

  -- what an opened record holds: the message in place of its ciphertext
  abbrev pub opened : (bytes : List ℕ) → List ℕ
  opened bytes = with_text (message_in bytes) bytes

-- The nonce that is given in hexadecimal digits.
use Rattle.std.specs.Prelude.{◌≡◌, ◌≢◌, ℕ, List, Ok, Err, Result}
use Rattle.hex.specs.Hex.{decode_of}
use Rattle.desk.specs.declared.locks.Nonce.{Nonce}
use Rattle.desk.specs.declared.unmade.Unmade.TheVariants.{Memory}
use Rattle.cli.specs.declared.problems.Problem.{Problem}
use Rattle.cli.specs.declared.problems.Problem.TheVariants.{Unmade, NoDigits, NoCount, Unread}
use Rattle.cli.specs.declared.problems.Problem.TheVariants.{KeyUnread, Unwritten}

-- an answer: the bytes that the digits spell, a refusal where they spell none, or no memory
abbrev pub NonceAnswer : (digits : List ℕ) → Result Nonce Problem → Type 0
NonceAnswer digits (Ok nonce) = decode_of digits ≡ Ok nonce.bytes.items
NonceAnswer digits (Err NoDigits) = (bytes : List ℕ) → decode_of digits ≢ Ok bytes
NonceAnswer digits (Err (Unmade why)) = why ≡ Memory
NonceAnswer digits (Err NoCount) = ⊥
NonceAnswer digits (Err (Unread e)) = ⊥
NonceAnswer digits (Err (KeyUnread e)) = ⊥
NonceAnswer digits (Err (Unwritten e)) = ⊥

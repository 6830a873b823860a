-- What the reader of a kind answers, by what the maker of that kind makes.
use Rattle.std.specs.Prelude.{◌≡◌, ℕ, List, length, Option, Some, None, Ok, Err, Result}
use Rattle.faults.specs.Causes.{box_fault}
use Rattle.faults.specs.Tables.{Not}
use Rattle.faults.specs.declared.BoxCause.TheVariants.{OtherKind}
use Rattle.faults.specs.declared.BoxFault.{BoxFault}
use Rattle.box_model.specs.States.{Made, State}
use Rattle.box_model.specs.Calls.{InSlip, Slips}

module _ (made : Made) {Content : Type 0} (writes : Content → Option (List ℕ)) where
  -- the 48 bytes that a done call of the maker left, on a box with this cipher, key and sign,
  -- whatever its shelf, its numbers and its number were
  abbrev pub MadeFrom : Content → (bytes : List ℕ) → Type 0
  MadeFrom content bytes =
      (t : State) × (u : State) × (number : ℕ) × (buffer : List ℕ)
      × Slips made t number (writes content) buffer (Ok tt) bytes u

  -- a call of the reader, with a buffer of 15 bytes
  pub record ReadsItsKind (bytes buffer : List ℕ) (answer : Result Content BoxFault)
      : Type 0 where
    -- what the maker makes from a content is read as that content
    pub own : (content : Content) → MadeFrom content bytes → length buffer ≡ 15
        → answer ≡ Ok content
    -- bytes that open to a message which the kind does not write get 16
    pub other : (message : List ℕ) → length bytes ≡ 48 → InSlip made bytes message
        → ((content : Content) → Not (writes content ≡ Some message)) → length buffer ≡ 15
        → answer ≡ Err (box_fault None OtherKind)

-- Opening exactly where sealing could have been.
use Rattle.std.specs.Prelude.{◌≡◌, ℕ, List, length, Ok, Result}
use Rattle.faults.specs.Tables.{Clear}
use Rattle.faults.specs.declared.ModeFault.{ModeFault}
use Rattle.octets.specs.Octets.{Octets}
use Rattle.cipher.specs.Meaning.{BlockFunction}
use Rattle.modes.specs.Cascade.{cascade_table, ctr, tag}

-- sealing this message, into buffers of these lengths, is not refused and gives this text and this
-- tag
pub record CascadeSealsTo (f : BlockFunction)
    (key nonce associated message text given : List ℕ) : Type 0 where
  pub bytes : Octets message
  pub taken :
      Clear (cascade_table (length key) (length nonce) (length associated) (length message)
      (length text) (length given))
  pub text_is : text ≡ ctr f key nonce message
  pub tag_is : given ≡ tag f key nonce associated text

-- an opening into a buffer of the text's length is done exactly when there is a message whose
-- sealing gives text and tag; then the buffer holds that message, and there is no other
pub record CascadeOpensExactly (f : BlockFunction) (key nonce associated text given out : List ℕ)
    (answer : Result (Unit {0}) ModeFault) (out' : List ℕ) : Type 0 where
  pub sound : answer ≡ Ok tt → CascadeSealsTo f key nonce associated out' text given
  pub complete :
      (message : List ℕ) → CascadeSealsTo f key nonce associated message text given
      → length out ≡ length text → (answer ≡ Ok tt) × (out' ≡ message)
  pub only :
      (m n : List ℕ) → CascadeSealsTo f key nonce associated m text given
      → CascadeSealsTo f key nonce associated n text given → m ≡ n

-- What a kind of slip is, by the message that it writes of each content.
use Rattle.std.specs.Prelude.{◌≡◌, ℕ, ◌≤◌, List, length, Option, Some, None}
use Rattle.faults.specs.Tables.{Not}
use Rattle.octets.specs.Octets.{Octets}

-- the message of each content, none where that is outside its range: what a slip takes, and of one
-- content alone
pub record IsKind {Content : Type 0} (writes : Content → Option (List ℕ)) : Type 0 where
  pub short : (c : Content) (message : List ℕ) → writes c ≡ Some message → length message ≤ 15
  pub bytes : (c : Content) (message : List ℕ) → writes c ≡ Some message → Octets message
  pub one : (c d : Content) (message : List ℕ)
      → writes c ≡ Some message → writes d ≡ Some message → c ≡ d

-- what a message is read as: the content that writes it, or nothing where no content does
abbrev pub ReadsBack : {Content : Type 0} → (writes : Content → Option (List ℕ))
    → (message : List ℕ) → Option Content → Type 0
ReadsBack writes message (Some c) = writes c ≡ Some message
ReadsBack {Content} writes message None = (c : Content) → Not (writes c ≡ Some message)

-- What a shelf is, and what its calls answer and leave.
use Rattle.std.specs.Prelude.{◌≡◌, ℕ, ◌<◌, ◌≤◌, Bool, true, List, [], ◌∷◌, length, Some, None, Ok}
use Rattle.std.specs.Prelude.{Err, Result}
use Rattle.faults.specs.Causes.{shelf_fault}
use Rattle.faults.specs.Tables.{Table, By, Not}
use Rattle.faults.specs.declared.ShelfCause.TheVariants.{Length, Outside, Shut}
use Rattle.faults.specs.declared.ShelfFault.{ShelfFault}

-- a shelf at some moment: how many places it has, which of them are open, and the bytes that each
-- holds
pub record Meaning : Type 0 where
  pub count : ℕ
  pub opens : ℕ → Bool
  pub bytes : ℕ → List ℕ

-- whether place p is open to a put; nothing but this reads it from a shelf
abbrev pub open_at : Meaning → (p : ℕ) → Bool
open_at m p = m.opens p

abbrev pub Open : Meaning → (p : ℕ) → Type 0
Open m p = open_at m p ≡ true

-- what is fixed for every shelf: at most 65,536 places, none open that it does not have, 1,024
-- bytes in each
pub record Lawful (m : Meaning) : Type 0 where
  pub few : m.count ≤ 65536
  pub inside : (p : ℕ) → Open m p → p < m.count
  pub whole : (p : ℕ) → p < m.count → length (m.bytes p) ≡ 1024

-- the bytes of place p are asked for, into a buffer of so many bytes; the faults of a question
-- name no place
abbrev pub get_table : Meaning → (p room : ℕ) → Table ShelfFault
get_table m p room =
    (Not (room ≡ 1024), shelf_fault None Length)
    ∷ (m.count ≤ p, shelf_fault None Outside)
    ∷ []

abbrev pub Gets : Meaning → (p : ℕ) (buffer : List ℕ) → Result (Unit {0}) ShelfFault
    → (buffer' : List ℕ) → Type 0
Gets m p buffer answer buffer' =
    By (get_table m p (length buffer))
    (λ fault. (answer ≡ Err fault) × (buffer' ≡ buffer))
    ((answer ≡ Ok tt) × (buffer' ≡ m.bytes p))

-- so many bytes are put at place p; the faults of a put name their place
abbrev pub put_table : Meaning → (p size : ℕ) → Table ShelfFault
put_table m p size =
    (Not (size ≡ 1024), shelf_fault (Some p) Length)
    ∷ (m.count ≤ p, shelf_fault (Some p) Outside)
    ∷ (Not (Open m p), shelf_fault (Some p) Shut)
    ∷ []

-- what a done put makes of a shelf: which places it shuts is left to the shelf, and nothing else
pub record Placed (m : Meaning) (p : ℕ) (bytes : List ℕ) (m' : Meaning) : Type 0 where
  pub count : m'.count ≡ m.count
  pub here : m'.bytes p ≡ bytes
  pub elsewhere : (q : ℕ) → q < m.count → Not (q ≡ p) → m'.bytes q ≡ m.bytes q
  pub opens_none : (q : ℕ) → Open m' q → Open m q

abbrev pub Puts : Meaning → (p : ℕ) (bytes : List ℕ) → Result (Unit {0}) ShelfFault
    → (m' : Meaning) → Type 0
Puts m p bytes answer m' =
    By (put_table m p (length bytes))
    (λ fault. (answer ≡ Err fault) × (m' ≡ m))
    ((answer ≡ Ok tt) × Placed m p bytes m')

-- What a shelf holds: how many places are open, and which of them hold a record.
use Rattle.std.specs.Prelude.{◌≡◌, ℕ, zero, suc, cond, List, [], ◌∷◌, ◌++◌}
use Rattle.faults.specs.Tables.{Not}
use Rattle.shelf.specs.Meaning.{Meaning, open_at}
use Rattle.inventory.specs.declared.held.HeldRecord.{HeldRecord}
use Rattle.records.specs.Records.{empty, number_in}

-- how many of the first n places are open
abbrev pub open_places : Meaning → (n : ℕ) → ℕ
open_places m zero = 0
open_places m (suc n) = cond (open_at m n) (suc (open_places m n)) (open_places m n)

-- what place n holds, where it is not empty
abbrev pub held_at : Meaning → (n : ℕ) → HeldRecord
held_at m n = record { place = n; number = number_in (m.bytes n) }

-- the records that the first n places hold, in order
pub data Inventory (m : Meaning) : (n : ℕ) → List HeldRecord → Type 0 where
  nothing : Inventory m 0 []
  skip : {n : ℕ} {held : List HeldRecord} → m.bytes n ≡ empty
      → Inventory m n held → Inventory m (suc n) held
  hold : {n : ℕ} {held : List HeldRecord} → Not (m.bytes n ≡ empty)
      → Inventory m n held → Inventory m (suc n) (held ++ (held_at m n ∷ []))

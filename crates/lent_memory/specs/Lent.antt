-- What comes of a sheet that is sealed under the next number of a box.
use Rattle.std.specs.Prelude.{◌≡◌, ℕ, ◌<◌, ◌≤◌, List, [], ◌∷◌, length, Some, None, Ok, Err}
use Rattle.faults.specs.Causes.{box_fault}
use Rattle.faults.specs.Tables.{Table, By, Not}
use Rattle.faults.specs.declared.BoxCause.TheVariants.{Shelf, Length, Limit, UsedUp, SixteenOut}
use Rattle.faults.specs.declared.ShelfCause.TheVariants.{Outside, Shut}
use Rattle.faults.specs.declared.BoxFault.{BoxFault}
use Rattle.shelf.specs.Meaning.{Open}
use Rattle.records.specs.Sheets.{sheet}
use Rattle.box_model.specs.States.{Made, State, last_number}
use Rattle.box_model.specs.Calls.{Done}

module _ (made : Made) (s : State) (place : ℕ) (label message buffer : List ℕ) where
  -- first the refusals of the draw, then those of the seal
  abbrev pub seal_next_table : Table BoxFault
  seal_next_table =
      (last_number < s.next, box_fault None UsedUp)
      ∷ (16 ≤ length s.out, box_fault None SixteenOut)
      ∷ (Not ((length label ≡ 46) × (length buffer ≡ 1024)), box_fault (Some place) Length)
      ∷ (928 < length message, box_fault (Some place) Limit)
      ∷ (s.shelf.count ≤ place, box_fault (Some place) (Shelf Outside))
      ∷ (Not (Open s.shelf place), box_fault (Some place) (Shelf Shut))
      ∷ []

  -- the answer, and what the buffer then holds
  abbrev pub SealsNext : (answer : Done) (buffer' : List ℕ) → Type 0
  SealsNext answer buffer' =
      By seal_next_table
      (λ fault. (answer ≡ Err fault) × (buffer' ≡ buffer))
      ((answer ≡ Ok tt)
      × (buffer' ≡ sheet made.forward made.key made.sign s.next place label message))

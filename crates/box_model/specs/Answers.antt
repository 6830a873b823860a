-- Every call has an answer: the definitions never contradict themselves.
use Rattle.std.specs.Prelude.{ℕ, List, Option, Result}
use Rattle.faults.specs.declared.BoxFault.{BoxFault}
use Rattle.box_model.specs.States.{Made, State}
use Rattle.box_model.specs.Calls.{Done, Message, Draws, Seals, Slips, Voids, Clears, Reads}
use Rattle.box_model.specs.Calls.{Unslips, TellsNumber}

-- whatever was handed in and whatever the box is
pub record Answerable (made : Made) (s : State) : Type 0 where
  pub draws : (answer : Result ℕ BoxFault) × (t : State) × Draws made s answer t
  pub seals : (number place : ℕ) (label message buffer : List ℕ)
      → (answer : Done) × (buffer' : List ℕ) × (t : State)
      × Seals made s number place label message buffer answer buffer' t
  pub slips : (number : ℕ) (message : Message) (buffer : List ℕ)
      → (answer : Done) × (buffer' : List ℕ) × (t : State)
      × Slips made s number message buffer answer buffer' t
  pub voids : (number : ℕ) → (answer : Done) × (t : State) × Voids made s number answer t
  pub clears : (place : ℕ) → (answer : Done) × (t : State) × Clears made s place answer t
  pub reads : (place : ℕ) (buffer : List ℕ)
      → (answer : Result (ℕ × ℕ) BoxFault) × (buffer' : List ℕ)
      × Reads made s place buffer answer buffer'
  pub unslips : (bytes buffer : List ℕ)
      → (answer : Result ℕ BoxFault) × (buffer' : List ℕ)
      × Unslips made s bytes buffer answer buffer'
  pub numbers : (place : ℕ)
      → (answer : Result (Option ℕ) BoxFault) × TellsNumber made s place answer

abbrev pub AlwaysAnswerable : Type 0
AlwaysAnswerable = (made : Made) (s : State) → Answerable made s

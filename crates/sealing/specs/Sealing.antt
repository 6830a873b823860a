-- Sealing a sheet into a record, and opening a record: their tables and results.
use Rattle.std.specs.Prelude.{◌≡◌, ℕ, ◌<◌, List, [], ◌∷◌, ◌++◌, length, None, Ok, Err, Result}
use Rattle.faults.specs.Causes.{mode_fault, box_fault}
use Rattle.faults.specs.Tables.{Table, By, Not}
use Rattle.faults.specs.declared.ModeCause.TheVariants.{Limit, Tag}
use Rattle.faults.specs.declared.ModeFault.{ModeFault}
use Rattle.faults.specs.declared.BoxCause.TheVariants.{Mode, Empty, Filling}
use Rattle.faults.specs.declared.BoxFault.{BoxFault}
use Rattle.cipher.specs.Meaning.{BlockFunction}
use Rattle.records.specs.Records.{empty, text_room, number_in, length_in, tag_in, WellFormed}
use Rattle.records.specs.Sheets.{sheet_under, right_tag, opened}
use Rattle.sealing.specs.declared.found.Found.{Found}

abbrev pub seal_sheet_table : (message : List ℕ) → Table ModeFault
seal_sheet_table message = (text_room < length message, mode_fault Limit) ∷ []

-- a sealing, by its answer and by what the bytes of the record are after it
abbrev pub SealsSheet : BlockFunction
    → (key nonce : List ℕ) (place : ℕ) (label message bytes : List ℕ)
    → Result (Unit {0}) ModeFault → (bytes' : List ℕ) → Type 0
SealsSheet f key nonce place label message bytes answer bytes' =
    By (seal_sheet_table message)
    (λ fault. (answer ≡ Err fault) × (bytes' ≡ bytes))
    ((answer ≡ Ok tt) × (bytes' ≡ sheet_under f key nonce place label message))

-- whether there is a record of the right form, and then whether its tag is the right one
abbrev pub form_table : (bytes : List ℕ) → Table BoxFault
form_table bytes =
    (bytes ≡ empty, box_fault None Empty)
    ∷ (Not (WellFormed bytes), box_fault None Filling)
    ∷ []

abbrev pub open_sheet_table : BlockFunction → (key : List ℕ) (place : ℕ) (bytes : List ℕ)
    → Table BoxFault
open_sheet_table f key place bytes =
    form_table bytes
    ++ ((Not (tag_in bytes ≡ right_tag f key place bytes), box_fault None (Mode Tag)) ∷ [])

-- an opening, by its answer and by what the bytes of the record are after it
abbrev pub OpensSheet : BlockFunction → (key : List ℕ) (place : ℕ) (bytes : List ℕ)
    → Result Found BoxFault → (bytes' : List ℕ) → Type 0
OpensSheet f key place bytes answer bytes' =
    By (open_sheet_table f key place bytes)
    (λ fault. (answer ≡ Err fault) × (bytes' ≡ empty))
    ((answer ≡ Ok (record { number = number_in bytes; length = length_in bytes }))
    × (bytes' ≡ opened f key bytes))

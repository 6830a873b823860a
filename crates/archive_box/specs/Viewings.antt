-- What a viewing shows of its buffer.
use Rattle.std.specs.Prelude.{◌≡◌, ℕ, ◌≤◌, List, length, Option, Some, None}
use Rattle.faults.specs.Tables.{Not}
use Rattle.records.specs.Records.{text_room, number_in, label_in, length_in, text_in}
use Rattle.archive_box.specs.declared.viewing.Sheet.{Sheet}

-- a record buffer, with room for the message that its record tells of
abbrev pub Viewable : (bytes : List ℕ) → Type 0
Viewable bytes = (length bytes ≡ 1024) × (length_in bytes ≤ text_room)

-- the number of the record, where there is one to view
abbrev pub ShowsNumber : (bytes : List ℕ) → Option ℕ → Type 0
ShowsNumber bytes None = Not (Viewable bytes)
ShowsNumber bytes (Some number) = Viewable bytes × (number ≡ number_in bytes)

-- its number, its label and its message; after a read the message stands where a sealed record
-- has its ciphertext
abbrev pub Shows : (bytes : List ℕ) → Option Sheet → Type 0
Shows bytes None = ShowsNumber bytes None
Shows bytes (Some sheet) =
    ShowsNumber bytes (Some sheet.number)
    × (sheet.label.now ≡ label_in bytes)
    × (sheet.message.now ≡ text_in bytes)

-- What the commands on shelves print: the report, and then a line on bytes that belong to no place,
-- where there are some.
use Rattle.std.specs.Prelude.{◌≡◌, ℕ, ◌%◌, ◌==◌, cond, List, [], ◌++◌, length, codes, decimal, Ok}
use Rattle.std.specs.Prelude.{Err, Result}
use Rattle.shelf.specs.Meaning.{Meaning}
use Rattle.plate.specs.Plates.{Fit, plate}
use Rattle.inventory.specs.Reports.{Reports}
use Rattle.desk.specs.Shelves.{PlateAnswer}
use Rattle.desk.specs.declared.unmade.Unmade.{Unmade}

-- so many bytes are left at the end
abbrev pub spare_line : (spare : ℕ) → List ℕ
spare_line spare = cond (spare == 0) [] (decimal spare ++ codes " spare bytes at the end\n")

-- the text on this shelf, of which so many bytes are spare
abbrev pub Lines : Meaning → (spare : ℕ) (text : List ℕ) → Type 0
Lines shelf spare text =
    (report : List ℕ) × Reports shelf report × (text ≡ report ++ spare_line spare)

-- the text on a fit plate, in cells of 1,026 bytes; or else the answer that is no text
abbrev pub PlateLines : {Text : Type 0} → (text : Text → List ℕ) → (image : List ℕ) (places : ℕ)
    → Result Text Unmade → Type 0
PlateLines text image places (Ok whole) =
    Fit image places × Lines (plate image places) (length image % 1026) (text whole)
PlateLines text image places (Err why) = PlateAnswer text image places (Err why)

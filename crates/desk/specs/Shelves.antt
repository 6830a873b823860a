-- What the command `shelf plate` answers on an image.
use Rattle.std.specs.Prelude.{◌≡◌, ℕ, List, None, Ok, Err, Result}
use Rattle.faults.specs.Causes.{shelf_fault}
use Rattle.faults.specs.Tables.{Not}
use Rattle.faults.specs.declared.ShelfCause.TheVariants.{Unfit as UnfitCause}
use Rattle.plate.specs.Plates.{Fit, plate}
use Rattle.inventory.specs.Reports.{Reports}
use Rattle.desk.specs.declared.unmade.Unmade.{Unmade}
use Rattle.desk.specs.declared.unmade.Unmade.TheVariants.{Refused, Unfit, Memory}

-- an answer: what a fit plate holds, the fault of an unfit one, or no memory to report on a fit one
abbrev pub PlateAnswer : {Text : Type 0} → (text : Text → List ℕ) → (image : List ℕ) (places : ℕ)
    → Result Text Unmade → Type 0
PlateAnswer text image places (Ok report) =
    Fit image places × Reports (plate image places) (text report)
PlateAnswer text image places (Err (Unfit fault)) =
    Not (Fit image places) × (fault ≡ shelf_fault None UnfitCause)
PlateAnswer text image places (Err (Refused fault)) = ⊥
PlateAnswer text image places (Err Memory) = Fit image places

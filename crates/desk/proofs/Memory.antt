-- No memory, after the check of a plate.
use Rattle.std.proofs.Common.{◌≡◌, ℕ, List, Ok, Err, Result, IsErrAnd, arith}
use Rattle.plate.specs.Plates.{Fit}
use Rattle.desk.specs.declared.unmade.Unmade.{Unmade}
use Rattle.desk.specs.declared.unmade.Unmade.TheVariants.{Refused, Unfit, Memory}
use Rattle.desk.specs.Shelves.{PlateAnswer}

pub no_memory_of_fit : {Text : Type 0} (text : Text → List ℕ) (image : List ℕ) (places : ℕ) (answer : Result Text Unmade) → Fit image places → IsErrAnd answer (λ e. e ≡ Memory) → PlateAnswer text image places answer
no_memory_of_fit text image places (Ok report) fit h = absurd h
no_memory_of_fit text image places (Err (Refused fault)) fit h = absurd (grind arith)
no_memory_of_fit text image places (Err (Unfit fault)) fit h = absurd (grind arith)
no_memory_of_fit text image places (Err Memory) fit h = fit

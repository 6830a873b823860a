-- What a call of the C interface answers.
use Rattle.std.specs.Prelude.{◌≡◌, ℕ, Ok, Err, Result}
use Rattle.faults.specs.Causes.{entry}
use Rattle.faults.specs.declared.BoxCause.TheVariants.{Mode}
use Rattle.faults.specs.declared.ModeFault.{ModeFault}

-- 0 where the call is done, and else the number of its refusal
abbrev pub number_of : {A : Type 0} → Result A ModeFault → ℕ
number_of (Ok x) = 0
number_of (Err fault) = (entry (Mode fault.cause)).number

-- a call of the library, by the number that stands for its answer
abbrev pub Numbers : {A : Type 0} (call : Result A ModeFault → Type 0) (number : ℕ) → Type 0
Numbers {A} call number = (answer : Result A ModeFault) × call answer × (number ≡ number_of answer)

-- the length of the message that was opened, and 0 where none was
abbrev pub length_of : Result ℕ ModeFault → ℕ
length_of (Ok n) = n
length_of (Err fault) = 0

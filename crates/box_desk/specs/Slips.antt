-- What lines that make and read slips of kinds are answered, and what becomes of the number.
use Rattle.std.specs.Prelude.{◌≡◌, ◌⊎◌, ℕ, List, [], ◌∷◌, ◌++◌, Ok, Err, Result, MatchResult}
use Rattle.hex.specs.Hex.{decode_of}
use Rattle.faults.specs.declared.BoxFault.{BoxFault}
use Rattle.archive_box.specs.declared.number.Number.{Number}
use Rattle.box_desk.specs.Digits.{decoding_problem}
use Rattle.box_desk.specs.declared.answers.Answer.{Answer}
use Rattle.box_desk.specs.declared.answers.Answer.TheVariants.{Slip}
use Rattle.box_desk.specs.declared.problems.Problem.{Problem}
use Rattle.box_desk.specs.declared.problems.Problem.TheVariants.{Memory, Refused}

-- where the box is done, its slip is told, and the number is spent; a number that the box refuses
-- comes back, last in hand, or is ended where there is no memory for it
abbrev pub MakesSlip : (makes : (bytes : List ℕ) → Type 0) (refuses : BoxFault → Type 0)
    → Number → (hand hand' : List Number) → Result Answer Problem → Type 0
MakesSlip makes refuses number hand hand' (Ok answer) =
    ((bytes : List ℕ) × makes bytes × (answer ≡ Slip bytes)) × (hand' ≡ hand)
MakesSlip makes refuses number hand hand' (Err problem) =
    ((fault : BoxFault) × refuses fault
    × (((problem ≡ Refused fault) × (hand' ≡ hand ++ number ∷ []))
    ⊎ ((problem ≡ Memory) × (hand' ≡ hand))))

-- an answer of the box as it is told
abbrev pub told : {Content : Type 0} → Result Content BoxFault → Result Content Problem
told (Ok content) = Ok content
told (Err fault) = Err (Refused fault)

-- the bytes of the digits are read, if there is memory for them
abbrev pub ReadsDigits : {Content : Type 0}
    → (reads : (bytes : List ℕ) → Result Content BoxFault → Type 0)
    → (digits : List ℕ) → Result Content Problem → Type 0
ReadsDigits {Content} reads digits result =
    (result ≡ Err Memory)
    ⊎ MatchResult (decode_of digits)
    (λ bytes. (answer : Result Content BoxFault) × reads bytes answer × (result ≡ told answer))
    (λ problem. result ≡ Err (decoding_problem problem))

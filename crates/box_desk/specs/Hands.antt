-- Which of the numbers in hand a value names, which is the latest that has it; and what becomes of
-- a number in a call that spends it.
use Rattle.std.specs.Prelude.{◌≡◌, ◌<◌, ◌≤◌, ◌⊎◌, ℕ, List, [], ◌∷◌, ◌++◌, length, map}
use Rattle.std.specs.Prelude.{slice_index, Option, Some, None, Ok, Err, Result}
use Rattle.archive_box.specs.declared.number.Number.{Number}
use Rattle.archive_box.specs.declared.number.Refusal.{Refusal}
use Rattle.box_desk.specs.declared.answers.Answer.{Answer}
use Rattle.box_desk.specs.declared.problems.Problem.{Problem}
use Rattle.box_desk.specs.declared.problems.Problem.TheVariants.{Memory, Refused}

-- the number at this place has this value
abbrev pub HasValue : (value : ℕ) (numbers : List Number) (at : ℕ) → Type 0
HasValue value numbers at =
    (at < length numbers) × (slice_index (map (λ n. n.value) numbers) at ≡ value)

-- the place of the latest that has it, or none where none has it
abbrev pub Latest : (value : ℕ) (numbers : List Number) → Option ℕ → Type 0
Latest value numbers (Some at) =
    HasValue value numbers at × ((other : ℕ) → HasValue value numbers other → other ≤ at)
Latest value numbers None = (at : ℕ) → ¬ (HasValue value numbers at)

-- a call that spends a number, by what the box answered: the line is answered the same; a number
-- that was refused comes back, last in hand, or is ended where there is no memory for it
abbrev pub Spent : Result Answer Refusal → (hand hand' : List Number)
    → Result Answer Problem → Type 0
Spent (Ok done) hand hand' answer = (answer ≡ Ok done) × (hand' ≡ hand)
Spent (Err refusal) hand hand' answer =
    ((answer ≡ Err (Refused refusal.fault)) × (hand' ≡ hand ++ refusal.number ∷ []))
    ⊎ ((answer ≡ Err Memory) × (hand' ≡ hand))

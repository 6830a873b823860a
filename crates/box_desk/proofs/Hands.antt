-- The latest number with a value among the first so many.
use Rattle.std.proofs.Common.{ℕ, ◌+◌, ◌<◌, ◌≤◌, List, length, Option, Some, None, subst, ⊎_elim, arith}
use Rattle.std.proofs.lemmas.Bool.{cases_eq}
use Rattle.archive_box.specs.declared.number.Number.{Number}
use Rattle.box_desk.specs.Hands.{HasValue, Latest}

abbrev pub LatestOf : (value : ℕ) (numbers : List Number) (n : ℕ) → Option ℕ → Type 0
LatestOf value numbers n (Some at) = (at < n) × HasValue value numbers at × ((other : ℕ) → other < n → HasValue value numbers other → other ≤ at)
LatestOf value numbers n None = (at : ℕ) → at < n → ¬ (HasValue value numbers at)

pub latest_of_none : (value : ℕ) (numbers : List Number) → LatestOf value numbers 0 None
latest_of_none value numbers at small = absurd (omega (arith, small))

pub found : (value : ℕ) (numbers : List Number) (n : ℕ) → HasValue value numbers n → LatestOf value numbers (n + 1) (Some n)
found value numbers n has = (omega arith, has, λ other small _. omega (arith, small))

below : (value : ℕ) (numbers : List Number) (n other : ℕ) → ¬ (HasValue value numbers n) → other < n + 1 → HasValue value numbers other → other < n
below value numbers n other lacks small has =
    ⊎_elim (λ same. absurd (lacks (subst (HasValue value numbers) same has))) (λ apart. omega (arith, apart, small)) (cases_eq other n)

pub passed_over : (value : ℕ) (numbers : List Number) (n : ℕ) (o : Option ℕ) → ¬ (HasValue value numbers n) → LatestOf value numbers n o → LatestOf value numbers (n + 1) o
passed_over value numbers n (Some at) lacks h = (omega (arith, h.0), h.1, λ other small has. h.2 other (below value numbers n other lacks small has) has)
passed_over value numbers n None lacks h = λ at small has. h at (below value numbers n at lacks small has) has

pub latest_of_all : (value : ℕ) (numbers : List Number) (n : ℕ) (o : Option ℕ) → length numbers ≤ n → LatestOf value numbers n o → Latest value numbers o
latest_of_all value numbers n (Some at) all h = (h.1, λ other has. h.2 other (omega (arith, all, has.0)) has)
latest_of_all value numbers n None all h = λ at has. h at (omega (arith, all, has.0)) has

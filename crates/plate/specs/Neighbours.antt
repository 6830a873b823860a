-- What the code looks for when it checks a plate: a used cell straight after an unused one.
use Rattle.std.specs.Prelude.{◌≡◌, ℕ, ◌+◌, ◌<◌, List}
use Rattle.faults.specs.Tables.{Not}
use Rattle.plate.specs.Plates.{cells, mark}

abbrev pub GapAfter : (memory : List ℕ) (j : ℕ) → Type 0
GapAfter memory j = (j + 1 < cells memory) × (mark memory j ≡ 0) × Not (mark memory (j + 1) ≡ 0)

abbrev pub NoGapAfterAny : (memory : List ℕ) → Type 0
NoGapAfterAny memory = (j : ℕ) → j + 1 < cells memory → mark memory j ≡ 0 → mark memory (j + 1) ≡ 0

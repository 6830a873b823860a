-- The shifts by where each nibble goes.
use Rattle.std.specs.Prelude.{◌≡◌, ℕ, ◌%◌, ◌<◌, length}
use Rattle.octets.specs.Lists.{at}
use Rattle.saturnin.specs.Cube.{Cube}
use Rattle.saturnin.specs.Layers.{SR, SR⁻¹, slice_to, sheet_to}

-- a shift takes the nibble at each index to another index
abbrev pub Moves : (shift : Cube → Cube) (to : ℕ → ℕ) → Type 0
Moves shift to = (s : Cube) (i : ℕ) → i < 64 → at (shift s) (to i) ≡ at s i

-- one step takes back what another did to a cube of 64 nibbles
abbrev pub Undoes : (back there : Cube → Cube) → Type 0
Undoes back there = (s : Cube) → length s ≡ 64 → back (there s) ≡ s

-- the shift of round r leaves every nibble where it is, or takes it through its slice or through
-- its sheet; and the way back from there
pub record Shifts (r : ℕ) : Type 0 where
  pub none : r % 2 ≡ 0 → Moves (SR r) (λ i. i)
  pub slices : r % 4 ≡ 1 → Moves (SR r) slice_to
  pub sheets : r % 4 ≡ 3 → Moves (SR r) sheet_to
  pub undone : Undoes (SR⁻¹ r) (SR r)

-- in every round
abbrev pub ShiftsMove : Type 0
ShiftsMove = (r : ℕ) → Shifts r

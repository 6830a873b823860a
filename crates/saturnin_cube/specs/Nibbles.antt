-- The nibbles of a cube that is held in rows.
use Rattle.std.specs.Prelude.{◌≡◌, ℕ, zero, suc, ◌/◌, ◌%◌, ◌<◌, List, [], ◌∷◌, map}
use Rattle.octets.specs.Lists.{at}
use Rattle.saturnin.specs.Cube.{cube}
use Rattle.saturnin_cube.specs.declared.nibble.Nibble.{Nibble}
use Rattle.saturnin_cube.specs.declared.shape.Row.{Row}
use Rattle.saturnin_cube.specs.declared.shape.Cube.{Cube}

-- nibble y of a row
abbrev pub of_row : Row → ℕ → ℕ
of_row r y = at (map (λ (n : Nibble). n.value) r.nibbles) y

-- the row whose nibble y is f y
abbrev pub IsRow : Row → (ℕ → ℕ) → Type 0
IsRow r f = (y : ℕ) → y < 4 → of_row r y ≡ f y

-- nibble y of row b
abbrev pub nibble_at : List Row → (b y : ℕ) → ℕ
nibble_at [] b y = 0
nibble_at (r ∷ rs) zero y = of_row r y
nibble_at (r ∷ rs) (suc b) y = nibble_at rs b y

unfoldable pub nibbles : Cube → List ℕ
nibbles c = cube (λ i. nibble_at c.rows (i / 4) (i % 4))

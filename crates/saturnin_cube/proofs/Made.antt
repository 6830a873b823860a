-- Rows and cubes that `array::from_fn` makes with a closure that changes nothing, by what each call says of its element.
use Rattle.std.proofs.Common.{◌≡◌, ℕ, ◌+◌, ◌*◌, ◌/◌, ◌%◌, ◌<◌, List, map, ◌∙◌, sym}
use Rattle.std.specs.Array.{IsFromFnResult}
use Rattle.octets.specs.Lists.{at}
use Rattle.saturnin.specs.Cube.{cube}
use Rattle.octets.proofs.Made.{Each, each_at}
use Rattle.saturnin_cube.specs.Nibbles.{IsRow, nibbles}
use Rattle.saturnin_cube.specs.declared.nibble.Nibble.{Nibble}
use Rattle.saturnin_cube.specs.declared.shape.Row.{Row}
use Rattle.saturnin_cube.specs.declared.shape.Cube.{Cube}
use Rattle.saturnin_cube.proofs.Nibbles.{is_rows, is_cube, nibble_is, no_nibble}
use denote.Param.Members.{Mut}

-- a row
pub made_row : {F : Type 0} (g : Mut F (ℕ × Unit {0}) Nibble) (f : F) (h : ℕ → ℕ) (ns : List Nibble)
    → Each g f (λ y n. n.value ≡ h y) 4 → IsFromFnResult g f ns 4 → (y : ℕ) → y < 4 → at (map (λ (n : Nibble). n.value) ns) y ≡ h y
made_row g f h ns pure it y l = sym (nibble_is (record { nibbles = ns; whole = it.long }) y no_nibble l) ∙ each_at g f (λ y n. n.value ≡ h y) 4 ns pure it y no_nibble l

-- a cube of such rows, by row and y or by index
pub made_rows : {F : Type 0} (g : Mut F (ℕ × Unit {0}) Row) (f : F) (h : ℕ → ℕ → ℕ) (c : Cube)
    → Each g f (λ b r. IsRow r (h b)) 16 → IsFromFnResult g f c.rows 16 → nibbles c ≡ cube (λ i. h (i / 4) (i % 4))
made_rows g f h c pure it = is_rows c h (λ b r lt. each_at g f (λ b r. IsRow r (h b)) 16 c.rows pure it b r lt)

pub made_cube : {F : Type 0} (g : Mut F (ℕ × Unit {0}) Row) (f : F) (h : ℕ → ℕ) (c : Cube)
    → Each g f (λ b r. IsRow r (λ y. h (4 * b + y))) 16 → IsFromFnResult g f c.rows 16 → nibbles c ≡ cube h
made_cube g f h c pure it = is_cube c h (λ b r lt. each_at g f (λ b r. IsRow r (λ y. h (4 * b + y))) 16 c.rows pure it b r lt)

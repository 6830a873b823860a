-- Cubes that are held in rows.
use Rattle.std.specs.Prelude.{◌≡◌, ℕ, zero, suc, ◌+◌, ◌*◌, ◌/◌, ◌%◌, ◌<◌, cond, ◌==◌, List, [], ◌∷◌, length, refl}
use Rattle.std.proofs.Common.{sym, ap, ap₂, get_or, ◌∙◌, add-zero, arith, lit<}
use Rattle.std.proofs.lemmas.List.{get_or-map}
use Rattle.octets.specs.Lists.{at}
use Rattle.saturnin.specs.Cube.{cube}
use Rattle.octets.proofs.Tables.{at_table, same_table}
use Rattle.saturnin_cube.specs.Nibbles.{of_row, IsRow, nibble_at, nibbles}
use Rattle.saturnin_cube.specs.declared.nibble.Nibble.{Nibble}
use Rattle.saturnin_cube.specs.declared.shape.Row.{Row}
use Rattle.saturnin_cube.specs.declared.shape.Cube.{Cube}

nibble_read : (rs : List Row) (b y : ℕ) (d : Row) → b < length rs → nibble_at rs b y ≡ of_row (get_or rs b d) y
nibble_read [] b y d h = absurd (omega arith)
nibble_read (r ∷ rs) zero y d h = refl
nibble_read (r ∷ rs) (suc b) y d h = nibble_read rs b y d (omega arith)

-- a nibble of a cube that is made by row and y
pub at_row : (f : ℕ → ℕ → ℕ) (b y : ℕ) → b < 16 → y < 4 → at (cube (λ i. f (i / 4) (i % 4))) (4 * b + y) ≡ f b y
at_row f b y h l =
    at_table 64 (λ i. f (i / 4) (i % 4)) (4 * b + y) (omega arith)
    ∙ ap₂ f (let q : (4 * b + y) / 4 ≡ b = omega arith in q) (let q : (4 * b + y) % 4 ≡ y = omega arith in q)

-- nibble y of a row as code reads it, and of row b
pub nibble_is : (r : Row) (y : ℕ) (n : Nibble) → y < 4 → (get_or r.nibbles y n).value ≡ of_row r y
nibble_is r y n l = sym (get_or-map (λ (n : Nibble). n.value) r.nibbles y n 0 (omega (arith, r.whole)))

pub row_is : (c : Cube) (b : ℕ) (r : Row) → b < 16 → IsRow (get_or c.rows b r) (λ y. at (nibbles c) (4 * b + y))
unfolding nibbles
row_is c b r h y l = sym (nibble_read c.rows b y r (omega (arith, c.whole))) ∙ sym (at_row (nibble_at c.rows) b y h l)

-- a row for where a list has none
abbrev pub no_nibble : Nibble
no_nibble = record { value = 0; small = lit< tt }

none : Row
none = record { nibbles = no_nibble ∷ no_nibble ∷ no_nibble ∷ no_nibble ∷ []; whole = refl }

-- a cube by its rows
pub is_rows : (c : Cube) (f : ℕ → ℕ → ℕ) → ((b : ℕ) (r : Row) → b < 16 → IsRow (get_or c.rows b r) (f b)) → nibbles c ≡ cube (λ i. f (i / 4) (i % 4))
unfolding nibbles
is_rows c f each = same_table 64 _ (λ i. f (i / 4) (i % 4)) (λ i h.
    nibble_read c.rows (i / 4) (i % 4) none (omega (arith, c.whole)) ∙ each (i / 4) none (omega arith) (i % 4) (omega arith))

-- or by the indices in them
pub is_cube : (c : Cube) (f : ℕ → ℕ) → ((b : ℕ) (r : Row) → b < 16 → IsRow (get_or c.rows b r) (λ y. f (4 * b + y))) → nibbles c ≡ cube f
is_cube c f each =
    is_rows c (λ b y. f (4 * b + y)) each ∙ same_table 64 _ f (λ i h. ap f (let q : 4 * (i / 4) + i % 4 ≡ i = omega arith in q))

-- a cube by a function on the columns
pub columns : (F : ℕ → ℕ → ℕ → ℕ → ℕ → ℕ) (c d : Cube)
    → ((b : ℕ) (r : Row) → b < 16 → let q : Row = get_or c.rows b r in IsRow (get_or d.rows b r) (λ y. F y (of_row q 0) (of_row q 1) (of_row q 2) (of_row q 3)))
    → nibbles d ≡ cube (λ i. let p : ℕ = 4 * (i / 4) in F (i % 4) (at (nibbles c) p) (at (nibbles c) (p + 1)) (at (nibbles c) (p + 2)) (at (nibbles c) (p + 3)))
columns F c d each = is_rows d (λ b y. F y (at (nibbles c) (4 * b)) (at (nibbles c) (4 * b + 1)) (at (nibbles c) (4 * b + 2)) (at (nibbles c) (4 * b + 3))) (λ b r h y l.
    let e₀ : of_row (get_or c.rows b r) 0 ≡ at (nibbles c) (4 * b) = row_is c b r h 0 (lit< tt) ∙ ap (at (nibbles c)) (add-zero (4 * b)) in
    each b r h y l ∙ rw (e₀, row_is c b r h 1 (lit< tt), row_is c b r h 2 (lit< tt), row_is c b r h 3 (lit< tt)))

-- a nibble that is taken out of a row
pub taken : (r : Row) (y : ℕ) {n : Nibble} → n ≡ get_or r.nibbles y n → y < 4 → n.value ≡ of_row r y
taken r y {n} e l = ap (λ (n : Nibble). n.value) e ∙ nibble_is r y n l

-- a cube with one function at even y and another at odd y
pub boxes : (even odd : ℕ → ℕ) (c d : Cube)
    → ((b : ℕ) (r : Row) → b < 16 → IsRow (get_or d.rows b r) (λ y. let n : ℕ = of_row (get_or c.rows b r) y in cond (y % 2 == 0) (even n) (odd n)))
    → nibbles d ≡ cube (λ i. cond (i % 2 == 0) (even (at (nibbles c) i)) (odd (at (nibbles c) i)))
boxes even odd c d each = is_cube d _ (λ b r h y l.
    each b r h y l
    ∙ ap₂ (λ m n. cond (m == 0) (even n) (odd n)) (let q : y % 2 ≡ (4 * b + y) % 2 = omega arith in q) (row_is c b r h y l))

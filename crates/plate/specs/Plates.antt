-- A plate: cells of 1,026 bytes, a mark and a record, each written once, one after another. What
-- is left of the memory is spare.
use Rattle.std.specs.Prelude.{◌≡◌, ℕ, zero, suc, ◌+◌, ◌*◌, ◌/◌, ◌<◌, ◌≤◌, min, cond, ◌&&◌, List}
use Rattle.std.specs.Prelude.{[], ◌∷◌, ◌++◌, length, drop, Some, None, Option, ◌==◌, nat_lt}
use Rattle.std.specs.Prelude.{slice_index}
use Rattle.faults.specs.Causes.{shelf_fault}
use Rattle.faults.specs.Tables.{Table, Not}
use Rattle.faults.specs.declared.ShelfCause.TheVariants.{Unfit}
use Rattle.faults.specs.declared.ShelfFault.{ShelfFault}
use Rattle.octets.specs.Octets.{zeros, big_endian, part, written}
use Rattle.shelf.specs.Meaning.{Meaning}

-- how many cells a memory of so many bytes has
abbrev pub plate_cells : (size : ℕ) → ℕ
plate_cells size = min (size / 1026) 8192

module _ (memory : List ℕ) where
  abbrev pub cells : ℕ
  cells = plate_cells (length memory)

  -- the mark of cell j, two bytes in big-endian order: the place of its record plus 1, or 0 where
  -- the cell is unused
  abbrev pub mark : (j : ℕ) → ℕ
  mark j = 256 * slice_index memory (1026 * j) + slice_index memory (1026 * j + 1)

  abbrev pub cell_bytes : (j : ℕ) → List ℕ
  cell_bytes j = part (1026 * j + 2) 1024 memory

  abbrev pub NoMarkAbove : (places : ℕ) → Type 0
  NoMarkAbove places = (j : ℕ) → j < cells → mark j ≤ places

  -- no used cell after an unused one
  abbrev pub NoGap : Type 0
  NoGap = (i j : ℕ) → i < j → j < cells → mark i ≡ 0 → mark j ≡ 0

  -- what a plate can be made from
  pub record Fit (places : ℕ) : Type 0 where
    pub some : 1 ≤ places
    pub few : places ≤ 4096
    pub marks : NoMarkAbove places
    pub order : NoGap

  -- the check before the making
  abbrev pub fit_table : (places : ℕ) → Table ShelfFault
  fit_table places = (Not (Fit places), shelf_fault None Unfit) ∷ []

  -- how many of the first n cells are used
  abbrev pub used : (n : ℕ) → ℕ
  used zero = 0
  used (suc n) = cond (mark n == 0) (used n) (suc (used n))

  -- the first unused cell
  pub record FirstUnused (j : ℕ) : Type 0 where
    pub within : j < cells
    pub unused : mark j ≡ 0
    pub before : (i : ℕ) → i < j → Not (mark i ≡ 0)

  -- a cell that is still unused
  abbrev pub Remains : Type 0
  Remains = (j : ℕ) × (j < cells) × (mark j ≡ 0)

  -- the last of the first n cells that has the mark of place p, or none
  abbrev pub last_cell : (p n : ℕ) → Option ℕ
  last_cell p zero = None
  last_cell p (suc n) = cond (mark n == p + 1) (Some n) (last_cell p n)

  -- the same in other words: that cell has the mark and no later one has; or no cell has it
  abbrev pub LastCell : (p n : ℕ) → Option ℕ → Type 0
  LastCell p n None = (i : ℕ) → i < n → Not (mark i ≡ p + 1)
  LastCell p n (Some j) =
      (j < n) × (mark j ≡ p + 1) × ((i : ℕ) → j < i → i < n → Not (mark i ≡ p + 1))

  -- a place holds the record of its last cell, or zeros
  abbrev pub held : Option ℕ → List ℕ
  held None = zeros 1024
  held (Some j) = cell_bytes j

  -- a plate of so many places: each is open while fewer cells are used than there are
  abbrev pub plate : (places : ℕ) → Meaning
  plate places = record {
    count = places;
    opens = λ p. nat_lt p places && nat_lt (used cells) cells;
    bytes = λ p. held (last_cell p cells);
  }

  -- a plate's memory after a done put: mark and record are written into the first unused cell,
  -- and the spare bytes are as they were
  pub record PlateStores (p : ℕ) (bytes memory' : List ℕ) : Type 0 where
    pub cell : ℕ
    pub first : FirstUnused cell
    pub all : memory' ≡ written (1026 * cell) (big_endian 2 (p + 1) ++ bytes) memory
    pub spare : drop (1026 * cells) memory' ≡ drop (1026 * cells) memory

-- What is told of a shelf, as text: a line on the whole, and one for each place that holds a
-- record.
use Rattle.std.specs.Prelude.{◌≡◌, ℕ, List, ◌++◌, length, codes, decimal}
use Rattle.std.specs.List.{flat_map}
use Rattle.shelf.specs.Meaning.{Meaning}
use Rattle.inventory.specs.declared.held.HeldRecord.{HeldRecord}
use Rattle.inventory.specs.Inventory.{open_places, Inventory}

-- as `8 places, 7 open, 2 with a record`
abbrev pub summary : (places opened held : ℕ) → List ℕ
summary places opened held =
    decimal places
    ++ (codes " places, "
    ++ (decimal opened ++ (codes " open, " ++ (decimal held ++ codes " with a record\n"))))

-- as `place 3: number 17`
abbrev pub held_line : HeldRecord → List ℕ
held_line held =
    codes "place "
    ++ (decimal held.place ++ (codes ": number " ++ (decimal held.number ++ codes "\n")))

abbrev pub Reports : Meaning → (text : List ℕ) → Type 0
Reports m text =
    (held : List HeldRecord)
    × Inventory m m.count held
    × (text ≡ summary m.count (open_places m m.count) (length held) ++ flat_map held_line held)

-- What is printed of a fault.
use Rattle.std.specs.Prelude.{ℕ, Option, Some, None, List, [], ◌++◌, codes, decimal}
use Rattle.faults.specs.declared.BoxFault.{BoxFault}
use Rattle.faults.specs.Causes.{Entry, entry}

-- the place of a fault that has one
abbrev pub printed_place : Option ℕ → List ℕ
printed_place None = []
printed_place (Some place) = codes ", place " ++ decimal place

-- a fault by the number and the layer of its cause, its place and its words, as
-- `refused with 4, layer 2, place 7: no such place`
abbrev pub printed : BoxFault → List ℕ
printed f =
    let e : Entry = entry f.cause in
    codes "refused with "
    ++ (decimal e.number ++ (codes ", layer " ++ (decimal e.layer
    ++ (printed_place f.place ++ (codes ": " ++ e.words)))))

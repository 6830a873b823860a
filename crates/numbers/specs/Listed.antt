-- The numbers that a list of them holds.
use Rattle.std.specs.Prelude.{ℕ, List}
use Rattle.numbers.specs.declared.list.NumbersOut.{NumbersOut}

abbrev pub listed : NumbersOut → List ℕ
listed o = o.items.items

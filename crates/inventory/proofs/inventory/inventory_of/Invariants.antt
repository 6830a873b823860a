use Rattle.std.proofs.Common.{vec_items}
use Rattle.inventory.specs.Inventory.{Inventory}
use Rattle.inventory.proofs.inventory.inventory_of.Given as goal

abbrev pub invariant-loop-place : goal.invariant-loop-place
invariant-loop-place g l = Inventory (g.S.Shelf.meaning l.shelf) l.place (vec_items l.held)

use Rattle.std.proofs.Common.{◌≡◌, ℕ, ◌<◌, vec_items, sym, ap, ◌∙◌, subst, arith}
use Rattle.std.proofs.lemmas.List.{length-replicate}
use Rattle.octets.specs.Octets.{zeros}
use Rattle.shelf.proofs.Tables.{got}
use Rattle.inventory.proofs.Counting.{held, skipped, got_ok}
use Rattle.inventory.specs.Inventory.{Inventory, nothing}
use Rattle.records.specs.Records.{number_in}
use Rattle.inventory.proofs.inventory.inventory_of.Goals as goal
use Rattle.inventory.proofs.inventory.inventory_of.Goals.{then-not-is_empty+in_ok-push, else-not-is_empty}

pub loop-place-init : goal.loop-place-init
loop-place-init g c = subst (Inventory (g.S.Shelf.meaning c.args.shelf.now) 0) (sym c.new-held.ensures.items) nothing

pub loop-place-preserved : goal.loop-place-preserved
loop-place-preserved g c =
    let m = g.S.Shelf.meaning c.args.shelf.now in
    let p = c.loop-place.place in
    let bytes = c.get.new.buffer in
    let inside : p < m.count = omega (arith, c.count-place-end.ensures, c.loop-place-test.true) in
    let b : bytes ≡ m.bytes p = got m p (zeros 1024) bytes c.get.result (length-replicate {A = ℕ} 1024 0) inside c.get.ensures in
    let items = vec_items c.loop-place.held in
    elim c.if-not-is_empty.branch [
      | then-not-is_empty+in_ok-push w ↦
          held m p items _ c.loop-place.invariant w.number-number.result (λ none. w.if-not-is_empty.ensures (b ∙ none)) (w.number-number.ensures ∙ ap number_in b)
          (ap vec_items w.held-is ∙ w.in_ok-push.ensures.items)
      | else-not-is_empty w ↦ skipped m p items _ c.loop-place.invariant (sym b ∙ w.if-not-is_empty.ensures) (ap vec_items w.held-is)
    ]

pub unwrap-requires : goal.unwrap-requires
unwrap-requires g c =
    let m = g.S.Shelf.meaning c.args.shelf.now in
    let p = c.loop-place.place in
    let inside : p < m.count = omega (arith, c.count-place-end.ensures, c.loop-place-test.true) in
    got_ok m p (zeros 1024) c.get.new.buffer c.get.result (length-replicate {A = ℕ} 1024 0) inside c.get.ensures

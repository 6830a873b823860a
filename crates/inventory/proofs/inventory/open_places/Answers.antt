use Rattle.std.proofs.Common.{refl, ap, ◌∙◌, rules, arith}
use Rattle.std.proofs.lemmas.Iterator.{YieldsList-from_range}
use Rattle.std.proofs.lemmas.Iterator.Consumers.{YieldsList-from_filter, count_from_yields_List}
use borrow.Author.Tests.{tests}
use Rattle.octets.proofs.Counts.{counted}
use Rattle.shelf.specs.Meaning.{open_at}
use Rattle.inventory.specs.Inventory.{open_places}
use Rattle.inventory.proofs.inventory.open_places.Goals as goal

pub returns : goal.returns
returns g c =
    let m = g.S.Shelf.meaning c.args.shelf.now in
    let n = c.count.result in
    count_from_yields_List _ _ c.count-2.ensures.ran (YieldsList-from_filter _ (open_at m) (YieldsList-from_range 0 n n c.filter.ensures.source (omega arith)) c.filter.ensures.closure (λ x r q k. search (rules, tests)))
    ∙ counted (open_at m) (open_places m) refl (λ p. refl) n
    ∙ ap (open_places m) c.count.ensures

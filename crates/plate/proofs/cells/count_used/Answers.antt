use Rattle.std.proofs.Common.{◌≡◌, ℕ, Bool, true, false, not, cond, eqb, refl, ap, ◌∙◌, rules, arith}
use Rattle.std.proofs.lemmas.Iterator.{YieldsList-from_range}
use Rattle.std.proofs.lemmas.Iterator.Consumers.{YieldsList-from_filter, count_from_yields_List}
use borrow.Author.Tests.{tests}
use Rattle.plate.specs.Plates.{mark, used}
use Rattle.octets.proofs.Counts.{counted}
use Rattle.plate.proofs.cells.count_used.Goals as goal

turned : (b : Bool) (x y : ℕ) → cond b x y ≡ cond (not b) y x
turned true x y = refl
turned false x y = refl

pub returns : goal.returns
returns c =
    let memory = c.args.memory.now in
    let in_use = λ (j : ℕ). not (eqb (mark memory j) 0) in
    let n = c.cells_in.result in
    count_from_yields_List _ _ c.count.ensures.ran (YieldsList-from_filter _ in_use (YieldsList-from_range 0 n n c.filter.ensures.source (omega arith)) c.filter.ensures.closure (λ x r q k. search (rules, tests)))
    ∙ counted in_use (used memory) refl (λ j. turned (eqb (mark memory j) 0) _ _) n
    ∙ ap (used memory) c.cells_in.ensures

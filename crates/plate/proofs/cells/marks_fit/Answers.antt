use Rattle.std.proofs.Common.{ℕ, ◌<◌, ◌≤◌, refl, rules, arith}
use Rattle.std.proofs.lemmas.Iterator.{cases_from_all, YieldsList-from_range}
use borrow.Author.Tests.{tests}
use Rattle.plate.specs.Plates.{mark}
use Rattle.plate.proofs.Ranges.{of_all}
use Rattle.plate.proofs.cells.marks_fit.Goals as goal

pub returns : goal.returns
returns c =
    let n = c.cells_in.result in
    let Fits = λ (j : ℕ). mark c.args.memory.now j ≤ c.args.places in
    let Above = λ (j : ℕ). c.args.places < mark c.args.memory.now j in
    of_all 0 n Fits Above (λ h j l. h j (omega arith) (omega (arith, c.cells_in.ensures))) (λ j l m q. (j, omega (arith, c.cells_in.ensures), q)) _
    (cases_from_all _ _ _ Fits Above c.all.ensures.ran (YieldsList-from_range 0 n n refl (omega arith)) (λ x q k. search (rules, tests)) (λ x q k. search (rules, tests)))

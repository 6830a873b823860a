use Rattle.std.proofs.Common.{◌≡◌, ℕ, ◌+◌, ◌-◌, refl, subst, rules, arith}
use Rattle.std.proofs.lemmas.Iterator.{cases_from_any, YieldsList-from_range}
use borrow.Author.Tests.{tests}
use Rattle.faults.specs.Tables.{Not}
use Rattle.plate.specs.Plates.{mark}
use Rattle.plate.proofs.Ranges.{of_any}
use Rattle.plate.proofs.cells.has_gap.Goals as goal

pub returns : goal.returns
returns c =
    let memory = c.args.memory.now in
    let n = c.cells_in.result in
    let Gap = λ (j : ℕ). (mark memory (j - 1) ≡ 0) × Not (mark memory j ≡ 0) in
    let None = λ (j : ℕ). mark memory (j - 1) ≡ 0 → mark memory j ≡ 0 in
    of_any 1 (n - 1) None Gap
    (λ h j l. subst (λ k. mark memory k ≡ 0 → mark memory (j + 1) ≡ 0) (omega arith) (h (j + 1) (omega arith) (omega (arith, c.cells_in.ensures))))
    (λ j l m q. (j - 1, (omega (arith, c.cells_in.ensures), q.0, subst (λ k. Not (mark memory k ≡ 0)) (omega arith) q.1))) _
    (cases_from_any _ _ _ Gap None c.any.ensures.ran (YieldsList-from_range 1 n (n - 1) refl refl) (λ x q k. search (rules, tests)) (λ x q k. search (rules, tests)))

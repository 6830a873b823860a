use Rattle.std.proofs.Common.{◌≡◌, ℕ, Some, None, ◌∙◌, rules, arith}
use Rattle.std.proofs.lemmas.Iterator.{IsFirst-from_position, YieldsList-from_slice}
use borrow.Author.Tests.{tests}
use Rattle.faults.specs.Tables.{Not}
use Rattle.numbers.specs.Listed.{listed}
use Rattle.numbers.proofs.Places.{without_none, without-some}
use Rattle.numbers.proofs.list.NumbersOut.take_out.Goals as goal

pub returns-in-Some : goal.returns-in-Some
returns-in-Some c =
    let Here = λ (m : ℕ). m ≡ c.args.number in
    let f =
    IsFirst-from_position _ _ (Some c.in-Some.i) Here (λ m. Not (Here m)) c.in-Some.ensures.ran
    (YieldsList-from_slice (listed c.args.self.now) cc)
    (λ x q k. search (rules, tests)) (λ x q k. search (rules, tests)) in
    c.remove.ensures.items
    ∙ without-some c.args.number (listed c.args.self.now) c.in-Some.i f.0 (f.1 0)
    (λ k l. f.2 k 0 (omega arith) l)

pub returns-in_default : goal.returns-in_default
returns-in_default c =
    let Here = λ (m : ℕ). m ≡ c.args.number in
    let f =
    IsFirst-from_position _ _ None Here (λ m. Not (Here m)) c.in_default.ensures.ran
    (YieldsList-from_slice (listed c.args.self.now) cc)
    (λ x q k. search (rules, tests)) (λ x q k. search (rules, tests)) in
    without_none c.args.number (listed c.args.self.now) (λ k l. f k 0 (omega arith) l)

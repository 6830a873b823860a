use Rattle.std.proofs.Common.{rules, subst, sym, ◌+◌}
use Rattle.std.proofs.lemmas.List.{get_or-map}
use Rattle.box_desk.specs.Hands.{HasValue}
use Rattle.box_desk.proofs.Hands.{LatestOf, found, passed_over}
use Rattle.box_desk.proofs.hand.Hand.latest.Goals as goal
use Rattle.box_desk.proofs.hand.Hand.latest.Goals.{in-Some+then-value, in_default, in_default-via-in-None-1, in_default-via-in-Some+else-value}

pub loop-at-preserved : goal.loop-at-preserved
loop-at-preserved c =
    let numbers = c.args.self.now.numbers.items in
    let value = c.args.value in
    let at = c.loop-at.at in
    elim c.match-get.branch [
      | in-Some+then-value w ↦ subst (LatestOf value numbers (at + 1)) (sym w.latest-is) (found value numbers at (search (rules, get_or-map)))
      | in_default w ↦
          let lacks : ¬ (HasValue value numbers at) = λ has. elim w.in_default.branch [
            | in_default-via-in-None-1 w' ↦ search (rules, get_or-map)
            | in_default-via-in-Some+else-value w' ↦ search (rules, get_or-map)
          ] in
          subst (LatestOf value numbers (at + 1)) (sym w.latest-is) (passed_over value numbers at c.loop-at.latest lacks c.loop-at.invariant)
    ]

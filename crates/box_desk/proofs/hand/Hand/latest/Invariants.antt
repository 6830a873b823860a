use Rattle.box_desk.proofs.Hands.{LatestOf}
use Rattle.box_desk.proofs.hand.Hand.latest.Given as goal

abbrev pub invariant-loop-at : goal.invariant-loop-at
invariant-loop-at l = LatestOf l.value l.self.numbers.items l.at l.latest

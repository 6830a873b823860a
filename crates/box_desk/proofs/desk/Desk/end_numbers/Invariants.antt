use Rattle.std.proofs.Common.{length}
use Rattle.box_desk.proofs.desk.Desk.end_numbers.Given as goal

abbrev pub decreases-loop-number : goal.decreases-loop-number
decreases-loop-number g l = length l.self.hand.numbers.items

use Rattle.saturnin.proofs.Laws.{shifts-move}
use Rattle.saturnin.proofs.theorems.shifts_move_nibbles.Goals as goal

pub returns : goal.returns
returns c = shifts-move

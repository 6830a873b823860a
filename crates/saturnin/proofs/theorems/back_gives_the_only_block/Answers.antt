use Rattle.saturnin.proofs.Laws.{forward-gives_blocks, forward-two_way}
use Rattle.saturnin.proofs.theorems.back_gives_the_only_block.Goals as goal

pub returns : goal.returns
returns c = record { blocks = forward-gives_blocks; only = forward-two_way }

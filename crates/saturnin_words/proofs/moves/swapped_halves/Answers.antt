use Rattle.std.proofs.Common.{ap, ◌∙◌, arith}
use Rattle.saturnin.specs.Bits.{bit}
use Rattle.saturnin_words.proofs.Masks.{swapped}
use Rattle.saturnin_words.proofs.moves.swapped_halves.Goals as goal

pub returns : goal.returns
returns c p h = ap (λ v. bit v p) c.rotate_left.ensures ∙ swapped c.args.x p (omega arith) h

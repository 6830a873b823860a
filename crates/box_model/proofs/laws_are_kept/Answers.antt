use Rattle.box_model.proofs.Keeping.{kept}
use Rattle.box_model.proofs.laws_are_kept.Goals as goal

pub returns : goal.returns
returns c = λ made fair s pos none. kept made fair s pos none

use Rattle.box_model.proofs.Possible.{answerable}
use Rattle.box_model.proofs.every_call_has_an_answer.Goals as goal

pub returns : goal.returns
returns c = answerable

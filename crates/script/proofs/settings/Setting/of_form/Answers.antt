use Rattle.script.proofs.Unspelt.{no_form}
use Rattle.script.proofs.settings.Setting.of_form.Goals as goal

pub returns-in_err-only_text : goal.returns-in_err-only_text
returns-in_err-only_text c = rw c.from_residual.ensures (no_form c.args.rest.now c.in_err-only_text.ensures)

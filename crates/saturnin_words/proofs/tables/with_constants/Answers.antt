use Rattle.std.proofs.Common.{◌∙◌}
use Rattle.saturnin_words.proofs.tables.with_constants.Goals as goal

pub returns-in-None : goal.returns-in-None
returns-in-None g c = (c.constants.result, c.constants.ensures ∙ c.new.ensures, c.f-in-None.ensures)

use Rattle.std.proofs.Common.{◌∙◌}
use Rattle.saturnin.specs.Layers.{sheet_from}
use Rattle.saturnin.specs.Layers.{SR_sheet}
use Rattle.saturnin.proofs.Places.{same_places}
use Rattle.saturnin_words.proofs.form.StateForm.shift_sheets.Goals as goal

pub returns : goal.returns
unfolding SR_sheet
returns c = c.turned.ensures ∙ same_places _ _ sheet_from tt

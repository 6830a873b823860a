use Rattle.std.proofs.Common.{◌∙◌}
use Rattle.saturnin.specs.Layers.{sheet_to}
use Rattle.saturnin.specs.Layers.{SR_sheet⁻¹}
use Rattle.saturnin.proofs.Places.{same_places}
use Rattle.saturnin_words.proofs.form.StateForm.shift_sheets_back.Goals as goal

pub returns : goal.returns
unfolding SR_sheet⁻¹
returns c = c.turned.ensures ∙ same_places _ _ sheet_to tt

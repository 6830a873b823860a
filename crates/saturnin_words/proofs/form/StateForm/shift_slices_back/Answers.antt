use Rattle.std.proofs.Common.{◌∙◌}
use Rattle.saturnin.specs.Layers.{slice_to}
use Rattle.saturnin.specs.Layers.{SR_slice⁻¹}
use Rattle.saturnin.proofs.Places.{same_places}
use Rattle.saturnin_words.proofs.form.StateForm.shift_slices_back.Goals as goal

pub returns : goal.returns
unfolding SR_slice⁻¹
returns c = c.turned.ensures ∙ same_places _ _ slice_to tt

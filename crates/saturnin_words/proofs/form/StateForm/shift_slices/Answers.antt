use Rattle.std.proofs.Common.{◌∙◌}
use Rattle.saturnin.specs.Layers.{slice_from}
use Rattle.saturnin.specs.Layers.{SR_slice}
use Rattle.saturnin.proofs.Places.{same_places}
use Rattle.saturnin_words.proofs.form.StateForm.shift_slices.Goals as goal

pub returns : goal.returns
unfolding SR_slice
returns c = c.turned.ensures ∙ same_places _ _ slice_from tt

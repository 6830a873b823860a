use Rattle.std.proofs.Common.{◌∙◌}
use Rattle.saturnin.specs.Layers.{slice_from, SR_slice}
use Rattle.saturnin.proofs.Places.{same_places}
use Rattle.saturnin_cube.proofs.form.CubeForm.shift_slices.Goals as goal

pub returns : goal.returns
unfolding SR_slice
returns c = c.turned.ensures ∙ same_places _ _ slice_from tt

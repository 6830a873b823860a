use Rattle.std.proofs.Common.{◌∙◌}
use Rattle.std.proofs.Common.{◌+◌, ◌%◌}
use Rattle.saturnin.specs.Rounds.{rotated}
use Rattle.saturnin.proofs.Places.{same_places}
use Rattle.saturnin_words.proofs.form.StateForm.rotated.Goals as goal

pub returns : goal.returns
unfolding rotated
returns c = c.turned.ensures ∙ same_places _ _ (λ i. (i + 20) % 64) tt

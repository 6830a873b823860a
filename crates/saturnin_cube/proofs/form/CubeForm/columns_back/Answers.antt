use Rattle.std.proofs.Common.{rules}
use Rattle.saturnin.specs.Back.{MC⁻¹, M⁻¹_row}
use Rattle.saturnin_cube.proofs.Nibbles.{columns}
use Rattle.saturnin_cube.proofs.form.CubeForm.columns_back.Goals as goal

pub returns : goal.returns
unfolding MC⁻¹
returns c = let k = c.map.ensures.items in columns M⁻¹_row _ _ (λ b r h y l. let called = k.at b r r h in search rules)

use Rattle.std.proofs.Common.{rules}
use Rattle.saturnin.specs.Layers.{MC, M_row}
use Rattle.saturnin_cube.proofs.Nibbles.{columns}
use Rattle.saturnin_cube.proofs.form.CubeForm.columns.Goals as goal

pub returns : goal.returns
unfolding MC
returns c = let k = c.map.ensures.items in columns M_row _ _ (λ b r h y l. let called = k.at b r r h in search rules)

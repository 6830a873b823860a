use Rattle.std.proofs.Common.{rules, [], ◌∷◌}
use Rattle.saturnin.specs.Bits.{bit}
use Rattle.octets.specs.Lists.{at}
use Rattle.saturnin.specs.Rounds.{constants}
use Rattle.saturnin_cube.proofs.Made.{made_rows}
use Rattle.saturnin_cube.proofs.shape.Cube.constants.Goals as goal

pub returns : goal.returns
unfolding constants
returns c =
    made_rows _ _ (λ b y. at (bit c.args.c.0 b ∷ 0 ∷ bit c.args.c.1 b ∷ 0 ∷ []) y) _
    (λ b r q lt called. (search rules, search rules)) c.from_fn.ensures.items

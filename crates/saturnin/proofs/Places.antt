-- Cubes that are made from places of a cube.
use Rattle.std.proofs.Common.{◌≡◌, ℕ, List, T, eqb, ap}
use Rattle.octets.specs.Lists.{at}
use Rattle.saturnin.specs.Cube.{cube}
use Rattle.saturnin.proofs.Bits.{below, same_below}
use Rattle.octets.proofs.Tables.{same_table}

-- nibbles from the same places
pub same_places : (s : List ℕ) (f g : ℕ → ℕ) → T (below (λ i. eqb (f i) (g i)) 64) → cube (λ i. at s (f i)) ≡ cube (λ i. at s (g i))
same_places s f g t = same_table 64 _ _ (λ i h. ap (at s) (same_below f g 64 t i h))

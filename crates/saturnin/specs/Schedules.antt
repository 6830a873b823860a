-- The round constants as a list of pairs.
use Rattle.std.specs.Prelude.{◌≡◌, ℕ, List, map}
use Rattle.octets.specs.Lists.{table}
use Rattle.saturnin.specs.Rounds.{RC₀, RC₁}
use Rattle.saturnin.specs.declared.schedule.RoundConstants.{RoundConstants}

-- those of super-rounds 0 to n - 1
pub record Scheduled (D R n : ℕ) (rounds : List RoundConstants) : Type 0 where
  pub first : map (λ (c : RoundConstants). c.0) rounds ≡ table n (RC₀ D R)
  pub second : map (λ (c : RoundConstants). c.1) rounds ≡ table n (RC₁ D R)

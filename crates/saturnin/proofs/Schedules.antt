-- The round constants in a list of pairs, each and the first few.
use Rattle.std.proofs.Common.{◌≡◌, ℕ, ◌<◌, ◌≤◌, List, length, map, get_or, take, sym, ap, ◌∙◌, arith}
use Rattle.std.proofs.lemmas.List.{get_or-map, length-map, take-map}
use Rattle.std.proofs.lemmas.List.FromFn.{take-map-range_with_len}
use Rattle.octets.specs.Lists.{table, at}
use Rattle.saturnin.specs.Rounds.{RC₀, RC₁}
use Rattle.saturnin.specs.Schedules.{Scheduled}
use Rattle.saturnin.specs.declared.schedule.RoundConstants.{RoundConstants}
use Rattle.octets.proofs.Tables.{at_table, length-table}

module _ (D R n : ℕ) (cs : List RoundConstants) (by : Scheduled D R n cs) where
  pub long : length cs ≡ n
  long = sym (length-map cs (λ c. c.0)) ∙ ap length by.first ∙ length-table n (RC₀ D R)

  module _ (i : ℕ) (d : RoundConstants) (h : i < n) where
    field : (p : RoundConstants → ℕ) (f : ℕ → ℕ) → map p cs ≡ table n f → p (get_or cs i d) ≡ f i
    field p f e = sym (get_or-map p cs i d 0 (omega (arith, h, long))) ∙ ap (λ t. at t i) e ∙ at_table n f i h

    pub pair : ((get_or cs i d).0 ≡ RC₀ D R i) × ((get_or cs i d).1 ≡ RC₁ D R i)
    pair = (field (λ c. c.0) (RC₀ D R) by.first, field (λ c. c.1) (RC₁ D R) by.second)

  pub fewer : (m : ℕ) → m ≤ n → Scheduled D R m (take m cs)
  unfolding table
  fewer m l = record { first = part (λ c. c.0) (RC₀ D R) by.first; second = part (λ c. c.1) (RC₁ D R) by.second }
    where
      part : (p : RoundConstants → ℕ) (f : ℕ → ℕ) → map p cs ≡ table n f → map p (take m cs) ≡ table m f
      part p f e = sym (take-map p m cs) ∙ ap (take m) e ∙ take-map-range_with_len f 0 n m l

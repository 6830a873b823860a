-- The tables of constants, each with a rule that is one test.
use Rattle.std.proofs.Common.{T, ◌≡◌, ℕ, ◌+◌, ◌<◌, Bool, List, [], map, get_or, subst, inl, inr}
use Rattle.std.specs.Str.{bytes_eq}
use Rattle.std.proofs.lemmas.Bool.{cases_Bool}
use Rattle.std.proofs.lemmas.Slice.Eq.{bytes_eq-Decides}
use Rattle.octets.specs.Lists.{table}
use Rattle.saturnin.specs.Rounds.{RC₀, RC₁}
use Rattle.saturnin.specs.Schedules.{Scheduled}
use Rattle.saturnin.specs.declared.schedule.RoundConstants.{RoundConstants}
use Rattle.saturnin.proofs.Bits.{both, both_left, both_right, below, at_below}

-- the constants of R super-rounds for separator D
abbrev pub right : (D R : ℕ) → List RoundConstants → Bool
right D R row = both (bytes_eq (map (λ c. c.0) row) (table R (RC₀ D R))) (bytes_eq (map (λ c. c.1) row) (table R (RC₁ D R)))

-- the rule of a table of n rows, the first of them for separator `start`
abbrev pub all_right : (rows : List (List RoundConstants)) (start R n : ℕ) → Bool
all_right rows start R n = below (λ e. right (start + e) R (get_or rows e [])) n

pub from_row : (rows : List (List RoundConstants)) (start R n : ℕ) → T (all_right rows start R n) → (D r e : ℕ) → r ≡ R → start + e ≡ D → e < n
    → Scheduled D r r (get_or rows e [])
from_row rows start R n t D r e er ed h =
    let test : T (right (start + e) R (get_or rows e [])) = at_below (λ e. right (start + e) R (get_or rows e [])) n t e h in
    rw (er, ← ed) (record {
      first = same _ _ (both_left _ _ test);
      second = same _ _ (both_right (bytes_eq (map (λ c. c.0) (get_or rows e [])) (table R (RC₀ (start + e) R))) _ test);
    })
  where
    same : (a b : List ℕ) → T (bytes_eq a b) → a ≡ b
    same a b t = elim (cases_Bool (bytes_eq a b)) [ inl y ↦ (bytes_eq-Decides a b).0 y | inr n ↦ absurd (subst T n t) ]

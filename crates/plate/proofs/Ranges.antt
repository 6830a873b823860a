-- What a test of the numbers of a range answers.
use Rattle.std.proofs.Common.{ℕ, ◌+◌, ◌-◌, ◌<◌, ◌≤◌, Bool, true, false, MatchBool, length, ◌∙◌, subst, arith}
use Rattle.std.specs.List.{range_with_len, AllWithin, HoldsAt}
use Rattle.std.proofs.lemmas.List.FromFn.{length-range_with_len, get_or-range_with_len}

module _ (a n : ℕ) (P Q : ℕ → Type 0) {All One : Type 0} (all : ((j : ℕ) → a ≤ j → j < a + n → P j) → All) (one : (j : ℕ) → a ≤ j → j < a + n → Q j → One) where
  each : AllWithin P (range_with_len a n) 0 (length (range_with_len a n)) → All
  each h = all (λ j l m. subst P (get_or-range_with_len a n (j - a) 0 (omega arith) ∙ omega arith) (h (j - a) 0 (omega arith) (omega (arith, length-range_with_len a n))))

  some : (k : ℕ) × (k < length (range_with_len a n)) × HoldsAt Q (range_with_len a n) k → One
  some (k, l, q) =
      let m : k < n = omega (arith, l, length-range_with_len a n) in
      one (a + k) (omega arith) (omega arith) (subst Q (get_or-range_with_len a n k 0 m) (q 0))

  pub of_all : (r : Bool) → MatchBool r (AllWithin P (range_with_len a n) 0 (length (range_with_len a n))) ((k : ℕ) × (k < length (range_with_len a n)) × HoldsAt Q (range_with_len a n) k)
      → MatchBool r All One
  of_all true h = each h
  of_all false h = some h

  pub of_any : (r : Bool) → MatchBool r ((k : ℕ) × (k < length (range_with_len a n)) × HoldsAt Q (range_with_len a n) k) (AllWithin P (range_with_len a n) 0 (length (range_with_len a n)))
      → MatchBool r One All
  of_any true h = some h
  of_any false h = each h

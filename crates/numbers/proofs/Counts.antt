-- How often numbers stand in lists.
use Rattle.std.proofs.Common.{◌≡◌, ℕ, ◌+◌, ◌<◌, ◌≤◌, Bool, true, false, cond, eqb, ◌⊎◌, List, []}
use Rattle.std.proofs.Common.{◌∷◌, ◌++◌, length, inl, inr, ⊎_elim, arith}
use Rattle.std.proofs.lemmas.Bool.Decides.{nat_tests}
use Rattle.std.proofs.lemmas.Bool.{eq-eqb, ne_eqb, cases_eq, cond-true, cond-false}
use Rattle.numbers.specs.Counting.{count, without}

pub count-append : (n : ℕ) (xs ys : List ℕ) → count n (xs ++ ys) ≡ count n xs + count n ys
count-append n [] ys = omega arith
count-append n (x ∷ xs) ys =
    let ih : count n (xs ++ ys) ≡ count n xs + count n ys = count-append n xs ys in
    grind (arith, nat_tests)

-- in a list of one number
pub count_one : (n m : ℕ)
    → ((n ≡ m) × (count n (m ∷ []) ≡ 1)) ⊎ ((n ≡ m → ⊥) × (count n (m ∷ []) ≡ 0))
count_one n m =
    ⊎_elim
    (λ e. inl (e, cond-true (eqb n m) 1 0 (eq-eqb n m e)))
    (λ d. inr (d, cond-false (eqb n m) 1 0 (ne_eqb n m d)))
    (cases_eq n m)

-- what stands in a list is taken out once
pub count-without : (n m : ℕ) (xs : List ℕ) → 0 < count m xs
    → count n (without m xs) + count n (m ∷ []) ≡ count n xs
count-without n m [] h = omega arith
count-without n m (x ∷ xs) h = by (count-without n m xs) (cases_eq m x)
  where
    by : (0 < count m xs → count n (without m xs) + count n (m ∷ []) ≡ count n xs)
        → (m ≡ x) ⊎ (m ≡ x → ⊥)
        → count n (without m (x ∷ xs)) + count n (m ∷ []) ≡ count n (x ∷ xs)
    by ih (inl e) = grind (arith, nat_tests)
    by ih (inr d) = grind (arith, nat_tests)

-- and makes the list no longer
pub length-without : (n : ℕ) (xs : List ℕ) → length (without n xs) ≤ length xs
length-without n [] = omega arith
length-without n (x ∷ xs) = by (eqb n x) (length-without n xs)
  where
    by : (b : Bool) → length (without n xs) ≤ length xs
        → length (cond b xs (x ∷ without n xs)) ≤ length (x ∷ xs)
    by true ih = omega arith
    by false ih = omega arith

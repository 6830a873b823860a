-- The listed numbers by their places.
use Rattle.std.proofs.Common.{◌≡◌, ℕ, zero, suc, ◌<◌, cond, eqb, List, [], ◌∷◌, length, get_or}
use Rattle.std.proofs.Common.{MatchBool, inl, inr, refl, sym, ap, ◌∙◌, arith}
use Rattle.std.specs.List.{remove, list_any}
use Rattle.std.proofs.lemmas.Bool.{cases_eq, eq-eqb, ne_eqb}
use Rattle.faults.specs.Tables.{Not}
use Rattle.numbers.specs.Counting.{count, without}

-- whether a number stands in a list, and how often
pub counted : (n : ℕ) (xs : List ℕ)
    → MatchBool (list_any (λ m. eqb m n) xs) (0 < count n xs) (count n xs ≡ 0)
counted n [] = refl
counted n (x ∷ xs) =
    elim (cases_eq x n) [
      | inl e ↦ rw (eq-eqb x n e, eq-eqb n x (sym e)) (omega arith)
      | inr d ↦ rw (ne_eqb x n d, ne_eqb n x (λ e. d (sym e))) (counted n xs)
    ]

-- a number that stands nowhere, and one that stands first at a place
pub without_none : (n : ℕ) (xs : List ℕ) → ((k : ℕ) → k < length xs → Not (get_or xs k 0 ≡ n))
    → xs ≡ without n xs
without_none n [] h = refl
without_none n (x ∷ xs) h =
    ap (λ t. x ∷ t) (without_none n xs (λ k l. h (suc k) (omega arith)))
    ∙ sym (ap (λ b. cond b xs (x ∷ without n xs))
    (ne_eqb n x (λ e. h 0 (omega arith) (sym e))))

pub without-some : (n : ℕ) (xs : List ℕ) (i : ℕ) → i < length xs → get_or xs i 0 ≡ n
    → ((k : ℕ) → k < i → Not (get_or xs k 0 ≡ n)) → remove xs i ≡ without n xs
without-some n [] i l here before = absurd (omega arith)
without-some n (x ∷ xs) zero l here before =
    sym (ap (λ b. cond b xs (x ∷ without n xs)) (eq-eqb n x (sym here)))
without-some n (x ∷ xs) (suc i) l here before =
    ap (λ t. x ∷ t) (without-some n xs i (omega arith) here (λ k m. before (suc k) (omega arith)))
    ∙ sym (ap (λ b. cond b xs (x ∷ without n xs))
    (ne_eqb n x (λ e. before 0 (omega arith) (sym e))))

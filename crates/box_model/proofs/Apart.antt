-- The drawn numbers apart from the ended ones, as one more is drawn or ended.
use Rattle.std.proofs.Common.{◌≡◌, ℕ, ◌+◌, ◌≤◌, Bool, true, false, cond, eqb, ◌⊎◌, List, [], ◌∷◌}
use Rattle.std.proofs.Common.{◌++◌, sym, refl, ap, ◌∙◌, ap₂, inl, inr, arith}
use Rattle.std.proofs.lemmas.Bool.{eq-eqb, ne_eqb, cond-true, cond-false}
use Rattle.numbers.specs.Counting.{count, without}
use Rattle.numbers.proofs.Counts.{count-append, count_one}
use Rattle.box_model.specs.Laws.{apart}

-- one more at the end, which the other list does not name
pub apart_push : (named ns : List ℕ) (n : ℕ) → count n named ≡ 0
    → apart named (ns ++ (n ∷ [])) ≡ apart named ns ++ (n ∷ [])
apart_push named [] n z = cond-true (eqb (count n named) 0) (n ∷ []) [] (eq-eqb (count n named) 0 z)
apart_push named (m ∷ ns) n z = by (eqb (count m named) 0) _ _ (apart_push named ns n z)
  where
    by : (b : Bool) (xs ys : List ℕ) → xs ≡ ys ++ (n ∷ [])
        → cond b (m ∷ xs) xs ≡ cond b (m ∷ ys) ys ++ (n ∷ [])
    by true xs ys e = ap (λ xs. m ∷ xs) e
    by false xs ys e = e

-- one more named, which does not stand in the list
pub apart_other : (named ns : List ℕ) (n : ℕ) → count n ns ≡ 0
    → apart (named ++ (n ∷ [])) ns ≡ apart named ns
apart_other named [] n z = refl
apart_other named (m ∷ ns) n z =
    let one = count_one n m in
    let two = count_one m n in
    let more : count n (m ∷ []) + count n ns ≡ 0 = omega (arith, count-append n (m ∷ []) ns) in
    let same : count m (named ++ (n ∷ [])) ≡ count m named =
    omega (arith, count-append m named (n ∷ [])) in
    ap₂ (λ (k : ℕ) (xs : List ℕ). cond (eqb k 0) (m ∷ xs) xs) same
    (apart_other named ns n (omega arith))

-- one more named, which stands in the list once and was not named
pub apart_more : (named ns : List ℕ) (n : ℕ) → count n named ≡ 0 → count n ns ≤ 1
    → apart (named ++ (n ∷ [])) ns ≡ without n (apart named ns)
apart_more named [] n z once = refl
apart_more named (m ∷ ns) n z once = by (apart_more named ns n z) (count_one n m)
  where
    joint : count n (m ∷ ns) ≡ count n (m ∷ []) + count n ns
    joint = count-append n (m ∷ []) ns

    hit : n ≡ m → count n (m ∷ []) ≡ 1
        → apart (named ++ (n ∷ [])) (m ∷ ns) ≡ without n (apart named (m ∷ ns))
    hit e k =
        let two = count_one m n in
        let gone : eqb (count m (named ++ (n ∷ []))) 0 ≡ false =
        ne_eqb _ 0 (λ q. omega (arith, count-append m named (n ∷ []))) in
        let here : eqb (count m named) 0 ≡ true =
        eq-eqb _ 0 (ap (λ x. count x named) (sym e) ∙ z) in
        cond-false _ _ _ gone
        ∙ (apart_other named ns n (omega (arith, joint))
        ∙ sym (ap (without n) (cond-true _ _ _ here) ∙ cond-true (eqb n m) _ _ (eq-eqb n m e)))

    miss : (n ≡ m → ⊥) → (b : Bool) (xs ys : List ℕ) → xs ≡ without n ys
        → cond b (m ∷ xs) xs ≡ without n (cond b (m ∷ ys) ys)
    miss d true xs ys e = ap (λ xs. m ∷ xs) e ∙ sym (cond-false (eqb n m) _ _ (ne_eqb n m d))
    miss d false xs ys e = e

    by : (count n ns ≤ 1 → apart (named ++ (n ∷ [])) ns ≡ without n (apart named ns))
        → ((n ≡ m) × (count n (m ∷ []) ≡ 1)) ⊎ ((n ≡ m → ⊥) × (count n (m ∷ []) ≡ 0))
        → apart (named ++ (n ∷ [])) (m ∷ ns) ≡ without n (apart named (m ∷ ns))
    by ih (inl h) = hit h.0 h.1
    by ih (inr h) =
        let two = count_one m n in
        let same : count m (named ++ (n ∷ [])) ≡ count m named =
        omega (arith, count-append m named (n ∷ [])) in
        let rest : List ℕ = apart (named ++ (n ∷ [])) ns in
        ap (λ (k : ℕ). cond (eqb k 0) (m ∷ rest) rest) same
        ∙ miss h.0 (eqb (count m named) 0) _ _ (ih (omega (arith, joint)))

-- How many of the first n numbers pass a test, as a chain counts them.
use Rattle.std.proofs.Common.{◌≡◌, ℕ, zero, suc, Bool, true, false, cond, List, [], ◌∷◌, ◌++◌, length, filter, map, sym, ap, ◌∙◌, add-one, arith}
use Rattle.std.specs.List.{range_with_len}
use Rattle.std.proofs.lemmas.List.{length-append, map-id}
use Rattle.std.proofs.lemmas.List.FromFn.{filter_of_map_range_with_len_more}

one_more : (b : Bool) (xs : List ℕ) (j : ℕ) → length (xs ++ cond b (j ∷ []) []) ≡ cond b (suc (length xs)) (length xs)
one_more true xs j = length-append xs (j ∷ []) ∙ omega arith
one_more false xs j = length-append xs [] ∙ omega arith

module _ (p : ℕ → Bool) (count : ℕ → ℕ) (none : count 0 ≡ 0) (more : (n : ℕ) → count (suc n) ≡ cond (p n) (suc (count n)) (count n)) where
  below : (n : ℕ) → length (filter p (map (λ j. j) (range_with_len 0 n))) ≡ count n
  below zero = sym none
  below (suc n) =
      ap (λ k. length (filter p (map (λ j. j) (range_with_len 0 k)))) (sym (add-one n))
      ∙ ap length (filter_of_map_range_with_len_more p (λ j. j) 0 n n (omega arith))
      ∙ one_more (p n) (filter p (map (λ j. j) (range_with_len 0 n))) n
      ∙ ap (λ k. cond (p n) (suc k) k) (below n)
      ∙ sym (more n)

  pub counted : (n : ℕ) → length (filter p (range_with_len 0 n)) ≡ count n
  counted n = ap (λ xs. length (filter p xs)) (sym (map-id (range_with_len 0 n))) ∙ below n

-- Two blocks that are compared: their differences, gathered by OR.
use Rattle.std.proofs.Common.{◌≡◌, ℕ, zero, suc, ◌<◌, List, [], ◌∷◌, length, get_or, sym, refl, ap, ◌∙◌, arith}
use lib.Bits.{bit_or, bit_xor, or_add_and, and_le_l, and_le_r, xor_assoc, xor_self, xor_zero_r, xor_zero_l}
use Rattle.std.specs.List.{fold}
use Rattle.std.proofs.lemmas.List.{ext_get_or}
use Rattle.modes.specs.Bytes.{xor}
use Rattle.modes.proofs.Texts.{length-xor, get_or-xor}

or_none : (x y : ℕ) → bit_or x y ≡ 0 → (x ≡ 0) × (y ≡ 0)
or_none x y h = let e = or_add_and x y in let l = and_le_l x y in let r = and_le_r x y in (omega (arith, h, e, l, r), omega (arith, h, e, l, r))

xor_none : (a b : ℕ) → bit_xor a b ≡ 0 → a ≡ b
xor_none a b h = sym (xor_assoc a b b ∙ ap (bit_xor a) (xor_self b) ∙ xor_zero_r a) ∙ ap (λ v. bit_xor v b) h ∙ xor_zero_l b

-- all of them
abbrev pub gathered : ℕ → List ℕ → ℕ
gathered d xs = fold (λ d x. bit_or d x) d xs

each : (x : ℕ) (xs : List ℕ) → x ≡ 0 → ((k : ℕ) → k < length xs → get_or xs k 0 ≡ 0) → (k : ℕ) → k < suc (length xs) → get_or (x ∷ xs) k 0 ≡ 0
each x xs e f zero l = e
each x xs e f (suc k) l = f k (omega arith)

gathered_none : (d : ℕ) (xs : List ℕ) → gathered d xs ≡ 0 → (d ≡ 0) × ((k : ℕ) → k < length xs → get_or xs k 0 ≡ 0)
gathered_none d [] h = (h, λ k l. absurd (omega arith))
gathered_none d (x ∷ xs) h =
    let rest = gathered_none (bit_or d x) xs h in
    let here = or_none d x rest.0 in
    (here.0, each x xs here.1 rest.1)

none_gathered : (xs : List ℕ) → gathered 0 (xor xs xs) ≡ 0
unfolding xor
none_gathered [] = refl
none_gathered (x ∷ xs) = ap (λ v. gathered v (xor xs xs)) (xor_self x) ∙ none_gathered xs

module _ (a b : List ℕ) (la : length a ≡ 32) (lb : length b ≡ 32) where
  pub alike : gathered 0 (xor a b) ≡ 0 → a ≡ b
  alike h =
      let l : length (xor a b) ≡ length a = length-xor a b (la ∙ sym lb) in
      ext_get_or 0 a b (la ∙ sym lb)
      (λ i k. xor_none (get_or a i 0) (get_or b i 0) (sym (get_or-xor a b i k (omega arith)) ∙ (gathered_none 0 (xor a b) h).1 i (omega (arith, l))))

  pub alike_same : a ≡ b → gathered 0 (xor a b) ≡ 0
  alike_same e = ap (λ t. gathered 0 (xor a t)) (sym e) ∙ none_gathered a

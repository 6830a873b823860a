-- The block of Short by its parts, and its padding found again.
use Rattle.std.proofs.Common.{◌≡◌, ℕ, ◌+◌, ◌-◌, ◌<◌, ◌≤◌, List, ◌++◌, length, get_or, take, drop, Some, None, Option, sym, ap, ◌∙◌, inl, inr, arith, MatchOption, nat_eq}
use Rattle.std.proofs.lemmas.List.{length-drop, length-take, drop-replicate, take_all, take-append-drop, take_at, drop_at}
use Rattle.std.specs.Bool.{then_some}
use Rattle.std.proofs.lemmas.Bool.{cases_lt, cases_eq, eq-eqb, ne_eqb}
use Rattle.octets.specs.Octets.{zeros}
use Rattle.modes.specs.Bytes.{padded}
use Rattle.modes.proofs.Texts.{padded-here, padded_after, is_padded}

pub message_put : (plain ys zs : List ℕ) (n : ℕ) → n ≤ 15 → ys ≡ take (16 + n - 16) (drop 16 plain) → zs ≡ zeros 15 → ys ++ drop n zs ≡ take n (drop 16 plain) ++ zeros (15 - n)
message_put plain ys zs n l e f =
    let s : 16 + n - 16 ≡ n = omega arith in
    ap (λ t. t ++ drop n zs) e
    ∙ ap (λ t. take t (drop 16 plain) ++ drop n zs) s
    ∙ ap (λ t. take n (drop 16 plain) ++ t) (ap (drop n) f ∙ drop-replicate n 15 0)

-- a text with zeros from n on, and at n - 1 neither 0x80 nor zero, or nothing at all, has no padding
module _ (s m : List ℕ) (e : s ≡ padded (length s) m) where
  here : get_or s (length m) 0 ≡ 128
  here = ap (λ t. get_or t (length m) 0) e ∙ padded-here (length s) m

  after : (i : ℕ) → length m < i → get_or s i 0 ≡ 0
  after i h = ap (λ t. get_or t i 0) e ∙ padded_after (length s) m i h

  pub none_found : length m < length s → ((j : ℕ) → j < length s → get_or s j 0 ≡ 0) → ⊥
  none_found l z = omega (arith, here, z (length m) l)

  other_found : (n : ℕ) → length m < length s → ((j : ℕ) → n < j → j < length s → get_or s j 0 ≡ 0) → (get_or s n 0 ≡ 128 → ⊥) → (get_or s n 0 ≡ 0 → ⊥) → ⊥
  other_found n l z p q =
      elim (cases_lt (length m) n) [
        | inl h ↦ q (after n h)
        | inr h ↦ elim (cases_lt n (length m)) [
          | inl k ↦ omega (arith, here, z (length m) k l)
          | inr k ↦ let d : n ≡ length m = omega arith in p (ap (λ i. get_or s i 0) d ∙ here)
        ]
      ]

pub no_padding : (s : List ℕ) (n : ℕ) → ((j : ℕ) → n < j → j < length s → get_or s j 0 ≡ 0) → (get_or s n 0 ≡ 128 → ⊥) → (get_or s n 0 ≡ 0 → ⊥)
    → (m : List ℕ) → length m < length s → s ≡ padded (length s) m → ⊥
no_padding s n z p q m l e = other_found s m e n l z p q

-- where the last byte that is not zero stands, there is the padding byte, or there is no padding
pub found : (s : List ℕ) (n : ℕ) → n < length s → (get_or s n 0 ≡ 0 → ⊥) → ((j : ℕ) → n < j → j < length s → get_or s j 0 ≡ 0)
    → MatchOption (then_some (nat_eq (get_or s n 0) 128) n) ((m : List ℕ) → length m < length s → s ≡ padded (length s) m → ⊥) (λ n. (n < length s) × (s ≡ padded (length s) (take n s)))
found s n within not after =
    elim (cases_eq (get_or s n 0) 128) [
      | inl e ↦ rw (eq-eqb (get_or s n 0) 128 e) (within, is_padded s n within e after)
      | inr d ↦ rw (ne_eqb (get_or s n 0) 128 d) (no_padding s n after d not)
    ]

-- a block that begins with the nonce has a padded message after it or none
module _ (nonce plain : List ℕ) (l : length nonce ≡ 16) (k : length plain ≡ 32) where
  pub other_nonce : (nonce ≡ take 16 plain → ⊥) → (m : List ℕ) → length m ≤ 15 → plain ≡ nonce ++ padded 16 m → ⊥
  other_nonce n m h e = n (sym (ap (take 16) e ∙ take_at nonce (padded 16 m) 16 l))

  rest : take 16 (drop 16 plain) ≡ drop 16 plain
  rest = take_all 16 (drop 16 plain) (simp length-drop (omega arith))

  sixteen : length (take 16 (drop 16 plain)) ≡ 16
  sixteen = simp (length-take, length-drop) (omega arith)

  pub this_nonce : nonce ≡ take 16 plain → (r : Option ℕ)
      → MatchOption r ((m : List ℕ) → length m < length (take 16 (drop 16 plain)) → take 16 (drop 16 plain) ≡ padded (length (take 16 (drop 16 plain))) m → ⊥)
      (λ n. (n < length (take 16 (drop 16 plain))) × (take 16 (drop 16 plain) ≡ padded (length (take 16 (drop 16 plain))) (take n (take 16 (drop 16 plain)))))
      → MatchOption r ((m : List ℕ) → length m ≤ 15 → plain ≡ nonce ++ padded 16 m → ⊥)
      (λ n. (n ≤ 15) × (plain ≡ nonce ++ padded 16 (take n (drop 16 plain))))
  this_nonce e None c = λ m h q. c m (omega (arith, sixteen)) (rest ∙ ap (drop 16) q ∙ drop_at nonce (padded 16 m) 16 l ∙ ap (λ n. padded n m) (sym sixteen))
  this_nonce e (Some n) c = (
    omega (arith, sixteen, c.0),
    sym (take-append-drop 16 plain) ∙ ap (λ t. t ++ drop 16 plain) (sym e)
        ∙ ap (λ t. nonce ++ t) (sym rest ∙ c.1 ∙ ap (λ k. padded k (take n (take 16 (drop 16 plain)))) sixteen ∙ ap (λ t. padded 16 (take n t)) rest),
  )

-- Super-rounds by a list of constants: one more forward, one less back. The list goes in pairs, with one left over where its
-- length is odd.
use Rattle.std.proofs.Common.{◌≡◌, ℕ, zero, suc, ◌+◌, ◌*◌, ◌/◌, ◌<◌, List, [], ◌∷◌, ◌++◌, length, get_or, drop, refl, sym, ap, ◌∙◌, arith}
use Rattle.std.proofs.lemmas.List.{get_or-take, get_or-drop, get_or_push, get_or_append_left, length_push}
use Rattle.std.specs.Simd.{first_chunks}
use Rattle.saturnin.specs.Cube.{Cube}
use Rattle.saturnin.specs.Rounds.{RC₀, RC₁, rounds}
use Rattle.saturnin.specs.Back.{rounds⁻¹}
use Rattle.saturnin.specs.TwoRounds.{super_round, super_round⁻¹}
use Rattle.saturnin.specs.Schedules.{Scheduled}
use Rattle.saturnin.specs.declared.schedule.RoundConstants.{RoundConstants}
use Rattle.saturnin.proofs.Schedules.{pair}
use Rattle.saturnin.proofs.TwoRounds.{Second, more, less}

module _ {A : Type 0} (d : A) where
  -- pairs that hold the items from the first on
  abbrev pub Pairs : (xs : List A) (pairs : List (List A)) → Type 0
  Pairs xs pairs = (i j m : ℕ) → i < length pairs → j < 2 → 2 * i + j ≡ m → get_or (get_or pairs i []) j d ≡ get_or xs m d

  chunk_at : (n i j m : ℕ) (xs : List A) → i < n → j < 2 → 2 * i + j ≡ m → get_or (get_or (first_chunks 2 n xs) i []) j d ≡ get_or xs m d
  chunk_at zero i j m xs h l e = absurd (omega arith)
  chunk_at (suc n) zero j m xs h l e = get_or-take 2 xs j d l ∙ ap (λ k. get_or xs k d) (omega arith)
  chunk_at (suc n) (suc i) j m xs h l e = chunk_at n i j (2 * i + j) (drop 2 xs) (omega arith) l (omega arith) ∙ get_or-drop 2 xs (2 * i + j) d ∙ ap (λ k. get_or xs k d) (omega arith)

  pub in_pairs : (xs : List A) (pairs : List (List A)) → pairs ≡ first_chunks 2 (length xs / 2) xs → length pairs ≡ length xs / 2 → Pairs xs pairs
  in_pairs xs pairs e l i j m h k q = ap (λ p. get_or (get_or p i []) j d) e ∙ chunk_at (length xs / 2) i j m xs (omega arith) k q

  -- the pairs without the last of them, and the items of that one
  pub without_last : (xs p : List A) (pairs front : List (List A)) → pairs ≡ front ++ p ∷ [] → Pairs xs pairs → Pairs xs front
  without_last xs p pairs front e all i j m h k q =
      ap (λ p. get_or p j d) (sym (get_or_append_left front (p ∷ []) [] i h)) ∙ ap (λ s. get_or (get_or s i []) j d) (sym e)
      ∙ all i j m (let l = ap length e in omega (arith, length_push front p, l)) k q

  pub in_last : (xs p : List A) (pairs front : List (List A)) → pairs ≡ front ++ p ∷ [] → Pairs xs pairs
      → (j m : ℕ) → j < 2 → 2 * length front + j ≡ m → get_or p j d ≡ get_or xs m d
  in_last xs p pairs front e all j m k q =
      ap (λ p. get_or p j d) (sym (get_or_push front p [] (length front) refl)) ∙ ap (λ s. get_or (get_or s (length front) []) j d) (sym e)
      ∙ all (length front) j m (let l = ap length e in omega (arith, length_push front p, l)) k q

  -- the item that is left over
  pub left_over : (xs rest : List A) → rest ≡ drop (length xs / 2 * 2) xs → (m : ℕ) → length xs / 2 * 2 ≡ m → get_or rest 0 d ≡ get_or xs m d
  left_over xs rest e m q = ap (λ s. get_or s 0 d) e ∙ get_or-drop (length xs / 2 * 2) xs 0 d ∙ ap (λ k. get_or xs k d) (omega arith)

abbrev pub none : RoundConstants
none = record { 0 = 0; 1 = 0 }

-- the constants of super-round i are c; k is its key
module _ (K : Cube) (D R : ℕ) (cs : List RoundConstants) (by : Scheduled D R R cs) (i : ℕ) (h : i < R)
    {there back : Cube → Cube} {key : Cube} (second : Second K D R i there back key) (c : RoundConstants) (k : Cube) (ec : c ≡ get_or cs i none) (ek : k ≡ key) where
  of : (c.0 ≡ RC₀ D R i) × (c.1 ≡ RC₁ D R i)
  of = let p = pair D R R cs by i none h in (ap (λ c. c.0) ec ∙ p.0, ap (λ c. c.1) ec ∙ p.1)

  -- x is the state before it and y the state after it, on the way from s
  pub turn : (x y s : Cube) → x ≡ rounds K D R (2 * i) s → y ≡ super_round there back k c.0 c.1 x → y ≡ rounds K D R (2 * (i + 1)) s
  turn x y s ex ey = ey ∙ rw (ek, of.0, of.1, ex) (more K D R i second s)

  pub return : (x y : Cube) → y ≡ super_round⁻¹ there back k c.0 c.1 x → rounds⁻¹ K D R (2 * i) y ≡ rounds⁻¹ K D R (2 * (i + 1)) x
  return x y ey = ap (rounds⁻¹ K D R (2 * i)) ey ∙ rw (ek, of.0, of.1) (less K D R i second x)

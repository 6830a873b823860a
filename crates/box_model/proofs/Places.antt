-- What each place holds, whichever effects came.
use Rattle.std.proofs.Common.{◌≡◌, ℕ, ◌<◌, cond, eqb, List, [], ◌∷◌, ◌++◌, Some, None, Option, sym}
use Rattle.std.proofs.Common.{refl, subst, arith}
use Rattle.std.proofs.lemmas.List.Sums.{fold_push}
use Rattle.std.proofs.lemmas.Bool.{eqb-true, eqb-false, cond_both}
use Rattle.shelf.specs.Meaning.{Meaning}
use Rattle.records.specs.Records.{empty}
use Rattle.records.specs.Sheets.{sheet}
use Rattle.box_model.specs.States.{Made, State}
use Rattle.box_model.specs.Effects.{Effect, drew, sealed, slipped, voided, cleared, Left, a_sheet}
use Rattle.box_model.specs.Effects.{nothing, leaves, latest}
use Rattle.box_model.proofs.Turns.{Turn, Puts}
use Rattle.box_model.proofs.Numbers.{Numbered, out-in_range}
use Rattle.box_model.proofs.Reading.{Is, Held}

-- what a place holds lasts while no put goes there
held_on : (made : Made) (p : ℕ) (o : Option Left) (m n : Meaning) → n.count ≡ m.count
    → (p < m.count → n.bytes p ≡ m.bytes p)
    → Held made p o m → Held made p o n
held_on made p None m n e f h = tt
held_on made p (Some w) m n e f h = (omega (arith, h.0), subst (Is made p w) (sym (f h.0)) h.1)

held_put : (made : Made) (p : ℕ) (o : Option Left) (q : ℕ) (w : Left) (bytes : List ℕ)
    (m n : Meaning)
    → Puts q bytes m n → Is made q w bytes → Held made p o m
    → Held made p (cond (eqb p q) (Some w) o) n
held_put made p o q w bytes m n x is h =
    cond_both (eqb p q) (Some w) o (λ x. Held made p x n)
    (λ b. subst (λ i. Held made i (Some w) n) (sym (eqb-true p q b))
    (omega (arith, x.inside, x.put.count), subst (Is made q w) (sym x.put.here) is))
    (λ b. held_on made p o m n x.put.count (λ l. x.put.elsewhere p l (eqb-false p q b)) h)

abbrev pub AllHeld : Made → List Effect → State → Type 0
AllHeld made es s = (p : ℕ) → Held made p (latest p es) s.shelf

module _ (first : ℕ) (made : Made) (es : List Effect) (s : State) (k : Numbered first es s)
    (h : AllHeld made es s) where
  same_shelf : (t : State) (p : ℕ) → t.shelf ≡ s.shelf → Held made p (latest p es) t.shelf
  same_shelf t p e = subst (Held made p (latest p es)) (sym e) (h p)

  held_one : (e : Effect) (t : State) → Turn made s e t → (p : ℕ)
      → Held made p (leaves p (latest p es) e) t.shelf
  held_one (drew n) t x p = same_shelf t p x.1
  held_one (sealed n q l m r) t x p =
      held_put made p (latest p es) q (a_sheet n l m)
      (sheet made.forward made.key made.sign n q l m) s.shelf t.shelf x.1
      (refl, out-in_range first es s k n x.0.was_out, x.2, x.3) (h p)
  held_one (slipped n m r) t x p = same_shelf t p x.1
  held_one (voided n) t x p = same_shelf t p x.1
  held_one (cleared q) t x p =
      held_put made p (latest p es) q nothing empty s.shelf t.shelf x.2 refl (h p)

  pub held_more : (e : Effect) (t : State) → Turn made s e t → AllHeld made (es ++ (e ∷ [])) t
  held_more e t x p =
      subst (λ o. Held made p o t.shelf) (sym (fold_push (leaves p) None es e)) (held_one e t x p)

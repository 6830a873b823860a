-- A draw and a seal in one, by what both answered.
use Rattle.std.proofs.Common.{◌≡◌, ℕ, ◌+◌, ◌<◌, ◌≤◌, List, [], ◌∷◌, ◌++◌, length, Ok, Err, ◌∙◌, sym, ap, subst, eqb, arith}
use Rattle.std.proofs.lemmas.Bool.{eq-eqb, cond-true}
use Rattle.faults.specs.Tables.{Not}
use Rattle.faults.specs.declared.BoxFault.{BoxFault}
use Rattle.faults.proofs.Results.{never_both, same_value}
use Rattle.cipher.specs.Meaning.{BlockFunction}
use Rattle.numbers.specs.Counting.{count}
use Rattle.numbers.proofs.Counts.{count-append}
use Rattle.records.specs.Sheets.{sheet}
use Rattle.box_model.specs.States.{Made, State, last_number}
use Rattle.box_model.specs.Calls.{Done, Draws, Seals, Voids}
use Rattle.archive_box.specs.declared.boxes.ArchiveBox.{ArchiveBox}
use Rattle.archive_box.specs.Boxes.{fixed, made}
use Rattle.lent_memory.specs.Lent.{SealsNext}

-- a number that was just drawn is out
pub drawn_out : (n m : ℕ) (out : List ℕ) → n ≡ m → Not (count n (out ++ (m ∷ [])) ≡ 0)
drawn_out n m out e z =
    omega (arith, count-append n out (m ∷ []), cond-true {A = ℕ} (eqb n m) 1 0 (eq-eqb n m e), z)

-- what is fixed is what a box was made with
pub made_same : {C S : Type 0} (forward back : C → BlockFunction) (before after : ArchiveBox C S) → fixed after ≡ fixed before → made forward back after ≡ made forward back before
made_same {C} forward back before after e =
    ap (λ (x : C × List ℕ × List ℕ). record { forward = forward x.0; back = back x.0; key = x.1; sign = x.2 }) e

module _ (box : Made) (s t : State) (n : ℕ) (draws : Draws box s (Ok n) t) where
  done : (n ≡ s.next) × (t ≡ record { shelf = s.shelf; next = s.next + 1; out = s.out ++ (s.next ∷ []) })
  done =
      let a : Not (last_number < s.next) = λ used. never_both n _ (draws.0 used).0 in
      let b : Not (16 ≤ length s.out) = λ full. never_both n _ ((draws.1 a).0 full).0 in
      let d = (draws.1 a).1 b in
      (same_value n _ d.0, d.1)

  -- the seal under it
  pub sealed_next : (place : ℕ) (label message buffer buffer' : List ℕ) (box' : Made) (u : State) (answer : Done) → box' ≡ box
      → Seals box' t n place label message buffer answer buffer' u → SealsNext box s place label message buffer answer buffer'
  sealed_next place label message buffer buffer' box' u answer same seals =
      let e = done.0 in
      let h = subst (λ b. Seals b t n place label message buffer answer buffer' u) same seals in
      let k = subst (λ x. Seals box x n place label message buffer answer buffer' u) done.1 h in (
        λ used. absurd (never_both n _ (draws.0 used).0),
        λ a. (
          λ full. absurd (never_both n _ ((draws.1 a).0 full).0),
          λ _. (
            λ h. let r = k.0 h in (r.0, r.2),
            λ c. (
              λ h. let r = (k.1 c).0 h in (r.0, r.2),
              λ f. (
                λ h. let r = ((k.1 c).1 f).0 h in (r.0, r.2),
                λ g. (
                  λ h. let r = (((k.1 c).1 f).1 g).0 h in (r.0, r.2),
                  λ o.
                      let r = ((((k.1 c).1 f).1 g).1 o).1 (drawn_out n s.next s.out e) in
                      (r.0, subst (λ m. buffer' ≡ sheet box.forward box.key box.sign m place label message) e r.1),
                ),
              ),
            ),
          ),
        ),
      )

  -- voiding it is not refused
  pub never_left : (n' : ℕ) (t' u : State) (box' : Made) (fault : BoxFault) → n' ≡ n → t' ≡ t → Voids box' t' n' (Err fault) u → ⊥
  never_left n' t' u box' fault same still voids =
      let v = subst (λ x. Voids box' x n' (Err fault) u) (still ∙ done.1) voids in
      never_both tt fault (sym (v.1 (drawn_out n' s.next s.out (same ∙ done.0))).0)

-- The number at a place, by what the place holds.
use Rattle.std.proofs.Common.{◌≡◌, ℕ, List, Some, None, Ok, Err, Option, Result, sym, ap, ◌∙◌}
use Rattle.faults.specs.Tables.{By, Not}
use Rattle.faults.specs.declared.BoxFault.{BoxFault}
use Rattle.faults.proofs.Results.{never_both, same_value}
use Rattle.records.specs.Records.{empty, number_in}
use Rattle.box_model.specs.States.{Made, State}
use Rattle.box_model.specs.Calls.{number_table, TellsNumber}
use Rattle.archive_box.specs.Returned.{with_place}

-- a done answer has no place added
done_before : {A : Type 0} (place : ℕ) (r : Result A BoxFault) (x : A) → with_place place r ≡ Ok x → r ≡ Ok x
done_before place (Ok y) x e = e
done_before place (Err fault) x e = absurd (never_both x _ (sym e))

module _ (made : Made) (s : State) (place : ℕ) (held : Result (List ℕ) BoxFault) (bytes : List ℕ) (got : with_place place held ≡ Ok bytes)
    (by : By (number_table made s place) (λ fault. with_place place held ≡ Err fault) (held ≡ Ok (s.shelf.bytes place))) where
  pub number_by : (answer : Option ℕ) → (bytes ≡ empty → answer ≡ None) → (Not (bytes ≡ empty) → answer ≡ Some (number_in bytes)) → TellsNumber made s place (Ok answer)
  number_by answer blank full =
      let is : held ≡ Ok bytes = done_before place held bytes got in (
        λ out. absurd (never_both bytes _ (sym got ∙ by.0 out)),
        λ n.
            let e : bytes ≡ s.shelf.bytes place = same_value bytes _ (sym is ∙ by.1 n) in
            (λ h. ap Ok (blank (e ∙ h)), λ h. ap Ok (full (λ k. h (sym e ∙ k)) ∙ ap (λ b. Some (number_in b)) e)),
      )

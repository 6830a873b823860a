-- A read, by what the shelf and the opening of the record answered.
use Rattle.std.proofs.Common.{◌≡◌, ℕ, List, length, Ok, Err, Result, sym, ap, ◌∙◌, subst}
use Rattle.faults.specs.declared.BoxFault.{BoxFault}
use Rattle.faults.specs.declared.ShelfFault.{ShelfFault}
use Rattle.faults.proofs.Tables.{done_when}
use Rattle.faults.proofs.Results.{never_both}
use Rattle.octets.specs.Octets.{zeros}
use Rattle.sealing.specs.declared.found.Found.{Found}
use Rattle.sealing.specs.Sealing.{OpensSheet}
use Rattle.shelf.specs.Meaning.{get_table, Gets}
use Rattle.box_model.specs.States.{Made, State}
use Rattle.box_model.specs.Calls.{Reads}
use Rattle.archive_box.specs.Returned.{number_and_length, with_place}

told_same : (place : ℕ) (found x : Result Found BoxFault) → found ≡ x → number_and_length (with_place place found) ≡ number_and_length (with_place place x)
told_same place found x e = ap (λ r. number_and_length (with_place place r)) e

module _ (made : Made) (s : State) (place : ℕ) (bytes bytes' bytes'' : List ℕ) (found : Result Found BoxFault) (whole : length bytes ≡ 1024) where
  pub read_by : Gets s.shelf place bytes (Ok tt) bytes' → OpensSheet made.forward made.key place bytes' found bytes'' → Reads made s place bytes (number_and_length (with_place place found)) bytes''
  read_by gets opens =
      let got = done_when (λ fault. (◌≡◌ {A = Result (Unit {0}) ShelfFault} (Ok tt) (Err fault)) × (bytes' ≡ bytes)) _ (get_table s.shelf place (length bytes)) (λ fault r. never_both tt _ r.0) gets in
      let o : OpensSheet made.forward made.key place (s.shelf.bytes place) found bytes'' = subst (λ b. OpensSheet made.forward made.key place b found bytes'') got.1.1 opens in
      let zero : zeros 1024 ≡ zeros (length bytes) = ap zeros (sym whole) in
      let answer = told_same place found in (
        λ h. absurd (h whole),
        λ _. (
          λ out. absurd (got.0.1.0 out),
          λ _. (
            λ h. (answer _ (o.0 h).0, (o.0 h).1 ∙ zero),
            λ n. (
              λ h. (answer _ ((o.1 n).0 h).0, ((o.1 n).0 h).1 ∙ zero),
              λ m. (λ h. (answer _ (((o.1 n).1 m).0 h).0, (((o.1 n).1 m).0 h).1 ∙ zero), λ k. let d = ((o.1 n).1 m).1 k in (answer _ d.0, d.1)),
            ),
          ),
        ),
      )

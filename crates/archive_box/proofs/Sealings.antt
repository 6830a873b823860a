-- A seal, by what the check, the shelf and the sealing of the sheet answered.
use Rattle.std.proofs.Common.{◌≡◌, ℕ, List, [], ◌∷◌, length, Ok, Err, Result, refl, ap, ◌∙◌}
use Rattle.faults.specs.Causes.{placed}
use Rattle.faults.specs.Tables.{Table, By, Clear}
use Rattle.faults.specs.declared.BoxFault.{BoxFault}
use Rattle.faults.specs.declared.ShelfFault.{ShelfFault}
use Rattle.faults.proofs.Tables.{by_follows}
use Rattle.shelf.specs.Meaning.{Meaning, Placed, Puts}
use Rattle.records.specs.Sheets.{sheet}
use Rattle.box_model.specs.States.{Made, State}
use Rattle.numbers.specs.Counting.{without}
use Rattle.box_model.specs.Calls.{seal_table, Seals}
use Rattle.archive_box.specs.Returned.{with_place}

-- where no row applies, a table has the outcome of being done
pub by_clear : {Fault : Type 0} (refusal : Fault → Type 0) (done : Type 0) (rows : Table Fault) → Clear rows → done → By rows refusal done
by_clear refusal done [] c d = d
by_clear refusal done (row ∷ rows) c d = (λ h. absurd (c.0 h), λ n. by_clear refusal done rows c.1 d)

module _ (made : Made) (s : State) (number place : ℕ) (label message buffer : List ℕ) where
  pub seal_refused : (fault : BoxFault) (result : Result (Unit {0}) BoxFault) → result ≡ Err fault → By (seal_table made s number place label message buffer) (λ row. placed place fault ≡ row) ⊥
      → Seals made s number place label message buffer (with_place place result) buffer s
  seal_refused fault result r b =
      by_follows {refused = λ row. placed place fault ≡ row}
      {refused' = λ row. (with_place place result ≡ Err row) × (s ≡ s) × (buffer ≡ buffer)} (seal_table made s number place label message buffer) (λ row e. (ap (with_place place) r ∙ ap Err e, refl, refl)) (λ d. absurd d) b

  module _ (clear : Clear (seal_table made s number place label message buffer)) where
    pub put_done : (bytes : List ℕ) (answer : Result (Unit {0}) ShelfFault) (m : Meaning) → length bytes ≡ 1024 → Puts s.shelf place bytes answer m → (answer ≡ Ok tt) × Placed s.shelf place bytes m
    put_done bytes answer m l puts = ((puts.1 (λ n. n l)).1 clear.1.1.0).1 clear.1.1.1.0

    pub seal_done : (bytes : List ℕ) (shelf : Meaning) (out : List ℕ) → bytes ≡ sheet made.forward made.key made.sign number place label message → Placed s.shelf place bytes shelf → out ≡ without number s.out
        → Seals made s number place label message buffer (Ok tt) bytes (record { shelf = shelf; next = s.next; out = out })
    seal_done bytes shelf out e put o =
        by_clear (λ row. (Ok tt ≡ Err row) × (record { shelf = shelf; next = s.next; out = out } ≡ s) × (bytes ≡ buffer)) _ (seal_table made s number place label message buffer) clear
        (refl, e, put, ap (λ (ns : List ℕ). record s { shelf = shelf; out = ns }) o)

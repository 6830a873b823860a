-- A slip in digits is read as the box reads its bytes, and what a refused slip left.
use Rattle.std.proofs.Common.{◌≡◌, ◌⊎◌, ℕ, List, [], ◌∷◌, ◌++◌, Ok, Err, Result, inl, inr, ap, ◌∙◌, subst, refl, sym}
use Rattle.hex.specs.Hex.{decode_of}
use Rattle.faults.specs.declared.BoxFault.{BoxFault}
use Rattle.faults.proofs.Tables.{by_follows}
use Rattle.faults.proofs.Results.{never_both}
use Rattle.box_model.specs.States.{Made, State}
use Rattle.box_model.specs.Calls.{Done, Message, slip_table, Slips}
use Rattle.archive_box.specs.declared.number.Number.{Number}
use Rattle.box_desk.specs.Slips.{told, ReadsDigits, MakesSlip}
use Rattle.box_desk.specs.declared.answers.Answer.{Answer}
use Rattle.box_desk.specs.declared.problems.Problem.{Problem}
use Rattle.box_desk.specs.declared.problems.Problem.TheVariants.{Memory, Refused}

pub read_as_bytes : {Content : Type 0} (reads : List ℕ → Result Content BoxFault → Type 0) (digits bytes lent : List ℕ) (answer : Result Content BoxFault) (result : Result Content Problem)
    → decode_of digits ≡ Ok bytes → lent ≡ bytes → reads lent answer → result ≡ told answer → ReadsDigits reads digits result
read_as_bytes reads digits bytes lent answer result decoded same h is = inr (rw decoded (answer, subst (λ b. reads b answer) same h, is))

-- a refused making left box and buffer as they were
pub refused_slip : (made : Made) (s t : State) (number : ℕ) (message : Message) (buffer buffer' : List ℕ) (fault : BoxFault)
    → Slips made s number message buffer (Err fault) buffer' t → Slips made s number message buffer (Err fault) buffer s
refused_slip made s t number message buffer buffer' fault does =
    by_follows {refused = λ row. (◌≡◌ {A = Done} (Err fault) (Err row)) × (t ≡ s) × (buffer' ≡ buffer)}
    {refused' = λ row. (◌≡◌ {A = Done} (Err fault) (Err row)) × (s ≡ s) × (buffer ≡ buffer)} (slip_table made s number message buffer) (λ row r. (r.0, refl, refl))
    (λ d. absurd (never_both tt fault (sym d.2))) does

-- so a making that the box refused is told
pub refused_made : (makes : List ℕ → Type 0) (refuses : BoxFault → Type 0) (fault : BoxFault) (number back : Number) (hand hand' : List Number) (result : Result Answer Problem)
    → refuses fault → back ≡ number → ((result ≡ Err (Refused fault)) × (hand' ≡ hand ++ back ∷ [])) ⊎ ((result ≡ Err Memory) × (hand' ≡ hand))
    → MakesSlip makes refuses number hand hand' result
refused_made makes refuses fault number back hand hand' result w same (inl h) =
    subst (λ r. MakesSlip makes refuses number hand hand' r) (sym h.0) (fault, w, inl (refl, h.1 ∙ ap (λ n. hand ++ n ∷ []) same))
refused_made makes refuses fault number back hand hand' result w same (inr h) =
    subst (λ r. MakesSlip makes refuses number hand hand' r) (sym h.0) (fault, w, inr (refl, h.1))

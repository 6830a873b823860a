-- The reader of a kind reads what its maker makes, and nothing else.
use Rattle.std.proofs.Common.{◌≡◌, ℕ, List, Some, Ok, Option, Result, ap, ◌∙◌}
use Rattle.faults.specs.declared.BoxFault.{BoxFault}
use Rattle.slip_kinds.specs.Kinds.{IsKind}
use Rattle.box_model.specs.States.{Made, Fair, State}
use Rattle.box_model.specs.Calls.{ReadsSlip}
use Rattle.box_model.specs.Kinds.{ReadsItsKind}
use Rattle.box_model.proofs.Slips.{slip_made, slip_holds, one_in_slip}

module _ (made : Made) (fair : Fair made) (s : State) {Content : Type 0}
    (writes : Content → Option (List ℕ)) (kind : IsKind writes) where
  pub reads_its_kind : (bytes buffer buffer' : List ℕ) (answer : Result Content BoxFault)
      → ReadsSlip made s writes bytes buffer answer buffer'
      → ReadsItsKind made writes bytes buffer answer
  reads_its_kind bytes buffer buffer' answer does = record {
    own = λ content from fits.
        let m = slip_made made fair from.0 from.1 from.2 (writes content) from.3 bytes from.4 in
        let octets = kind.bytes content m.0 m.1 in
        let h = slip_holds made fair from.2 m.0 bytes m.2 octets m.3 in
        let done = ((does.1 (λ no'. no' (h.0, fits))).1 (λ no'. no' (m.0, h.1))).1
        (λ no'. no' (content, m.0, (h.1, m.1))) in
        let same : done.1 ≡ m.0 = one_in_slip made bytes done.1 m.0 done.2.0 h.1 in
        done.3 ∙ ap Ok (kind.one done.0 content m.0 (done.2.1 ∙ ap Some same) m.1);
    other = λ message long held none fits.
        let refused = ((does.1 (λ no'. no' (long, fits))).1 (λ no'. no' (message, held))).0
        (λ h. none h.0 (h.2.1 ∙ ap Some (one_in_slip made bytes h.1 message h.2.0 held))) in
        refused.0;
  }

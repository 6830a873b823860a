-- The reader of a kind, by what the unslip and the kind answered.
use Rattle.std.proofs.Common.{◌≡◌, ℕ, List, [], ◌∷◌, length, take, Some, None, Ok, Err, Option, Result, sym, refl, ap, ◌∙◌}
use Rattle.std.proofs.lemmas.List.{take_at}
use Rattle.faults.specs.Causes.{box_fault, left}
use Rattle.faults.specs.Tables.{Table, By, Not}
use Rattle.faults.specs.declared.BoxCause.TheVariants.{OtherKind}
use Rattle.faults.specs.declared.BoxFault.{BoxFault}
use Rattle.faults.proofs.Tables.{by_then}
use Rattle.faults.proofs.Results.{never_both, same_error, same_value}
use Rattle.octets.specs.Octets.{zeros}
use Rattle.modes.specs.Short.{filled}
use Rattle.box_model.specs.States.{Made, State}
use Rattle.box_model.specs.Calls.{InSlip, unslip_table, Unslips, OfContent, ReadsSlip}
use Rattle.box_model.proofs.Slips.{one_in_slip}

module _ (made : Made) (s : State) {Content : Type 0} (writes : Content → Option (List ℕ)) (bytes buffer mid : List ℕ) (answer : Result ℕ BoxFault)
    (unslips : Unslips made s bytes buffer answer mid) where
  -- the row that the reader has beyond those of an unslip
  more : Table BoxFault
  more = (Not ((content : Content) × (message : List ℕ) × OfContent made s writes bytes content message), box_fault None OtherKind) ∷ []

  reads : (result : Result Content BoxFault) (buffer' : List ℕ)
      → ((f : BoxFault) → answer ≡ Err f → mid ≡ left f buffer → (result ≡ Err f) × (buffer' ≡ left f buffer))
      → ((message : List ℕ) → InSlip made bytes message → answer ≡ Ok (length message) → mid ≡ filled message
      → By more (λ f. (result ≡ Err f) × (buffer' ≡ left f buffer)) ((content : Content) × (message : List ℕ)
      × OfContent made s writes bytes content message × (result ≡ Ok content) × (buffer' ≡ filled message)))
      → ReadsSlip made s writes bytes buffer result buffer'
  unfolding more
  reads result buffer' refuse go_on =
      by_then (λ f. (answer ≡ Err f) × (mid ≡ left f buffer)) (λ f. (result ≡ Err f) × (buffer' ≡ left f buffer))
      ((message : List ℕ) × InSlip made bytes message × (answer ≡ Ok (length message)) × (mid ≡ filled message)) _ more
      (unslip_table made s bytes buffer) (λ f h. refuse f h.0 h.1) (λ d. go_on d.0 d.1 d.2 d.3) unslips

  pub refused_below : (fault : BoxFault) (result : Result Content BoxFault) → answer ≡ Err fault → result ≡ Err fault → ReadsSlip made s writes bytes buffer result mid
  unfolding more
  refused_below fault result a r =
      reads result mid (λ f e m. (r ∙ ap Err (same_error fault f (sym a ∙ e)), m))
      (λ message held e m. absurd (never_both (length message) fault (sym e ∙ a)))

  -- what the unslip left begins with the message
  front : (n : ℕ) (message : List ℕ) → answer ≡ Ok n → answer ≡ Ok (length message) → mid ≡ filled message → take n mid ≡ message
  front n message a b e = ap (take n) e ∙ take_at message _ n (same_value (length message) n (sym b ∙ a))

  module _ (n : ℕ) (a : answer ≡ Ok n) where
    pub of_a_content : (content : Content) → writes content ≡ Some (take n mid) → ReadsSlip made s writes bytes buffer (Ok content) mid
    unfolding more
    of_a_content content e =
        reads (Ok content) mid (λ f b m. absurd (never_both n f (sym a ∙ b)))
        (λ message held b m.
        let writes_it : writes content ≡ Some message = e ∙ ap Some (front n message a b m) in (
          λ h. absurd (h (content, message, (held, writes_it))),
          λ h. (content, message, (held, writes_it), refl, m),
        ))

    pub of_no_content : ((c : Content) → Not (writes c ≡ Some (take n mid))) → (result : Result Content BoxFault) (buffer' : List ℕ)
        → result ≡ Err (box_fault None OtherKind) → buffer' ≡ zeros (length buffer) → ReadsSlip made s writes bytes buffer result buffer'
    unfolding more
    of_no_content none result buffer' r z =
        reads result buffer' (λ f b m. absurd (never_both n f (sym a ∙ b)))
        (λ message held b m. (
          λ h. (r, z),
          λ h. absurd (h (λ x. none x.0 (x.2.1 ∙ ap Some (one_in_slip made bytes x.1 message x.2.0 held ∙ sym (front n message a b m))))),
        ))

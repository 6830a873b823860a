-- An unslip, by what the opening of the slip answered.
use Rattle.std.proofs.Common.{◌≡◌, ℕ, List, length, Ok, Err, Result, sym, ap, ◌∙◌}
use Rattle.faults.specs.Causes.{from_mode}
use Rattle.faults.specs.declared.ModeFault.{ModeFault}
use Rattle.faults.specs.declared.BoxFault.{BoxFault}
use Rattle.faults.proofs.Results.{never_both, same_error, same_value}
use Rattle.octets.specs.Octets.{zeros}
use Rattle.sealing.specs.Slips.{OpensSlip}
use Rattle.box_model.specs.States.{Made, State}
use Rattle.box_model.specs.Calls.{Unslips}

module _ (made : Made) (s : State) (bytes buffer buffer' : List ℕ) (answer : Result ℕ ModeFault) (whole : length bytes ≡ 48) (room : length buffer ≡ 15)
    (opens : OpensSlip made.back made.key bytes answer buffer') where
  pub unslip_refused : (fault : ModeFault) (result : Result ℕ BoxFault) → answer ≡ Err fault → result ≡ Err (from_mode fault) → Unslips made s bytes buffer result buffer'
  unslip_refused fault result a r = (
    λ h. absurd (h (whole, room)),
    λ _. (
      λ h. (r ∙ ap (λ f. Err (from_mode f)) (same_error fault _ (sym a ∙ (opens.0 h).0)), (opens.0 h).1 ∙ ap zeros (sym room)),
      λ h. let d = opens.1 h in absurd (never_both _ fault (sym d.2 ∙ a)),
    ),
  )

  pub unslip_done : (n : ℕ) → answer ≡ Ok n → Unslips made s bytes buffer (Ok n) buffer'
  unslip_done n a = (
    λ h. absurd (h (whole, room)),
    λ _. (
      λ h. absurd (never_both n _ (sym a ∙ (opens.0 h).0)),
      λ h. let d = opens.1 h in (d.0, d.1, ap Ok (same_value n _ (sym a ∙ d.2)), d.3),
    ),
  )

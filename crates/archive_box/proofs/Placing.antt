-- The place that is added to a fault.
use Rattle.std.proofs.Common.{◌≡◌, ℕ, Ok, Err, Result, MatchResult, ap, ◌∙◌}
use Rattle.std.specs.Result.{IsErrAnd}
use Rattle.std.proofs.lemmas.Result.{err_from_is_err_and}
use Rattle.faults.specs.Causes.{placed}
use Rattle.faults.specs.declared.BoxFault.{BoxFault}
use Rattle.archive_box.specs.Returned.{with_place}

pub placed_by : {A : Type 0} (place : ℕ) (P : BoxFault → BoxFault → Type 0) → ((e x : BoxFault) → P e x → x ≡ placed place e)
    → (r r' : Result A BoxFault) → MatchResult r (λ v. r' ≡ Ok v) (λ e. IsErrAnd r' (P e)) → r' ≡ with_place place r
placed_by place P gives (Ok v) r' h = h
placed_by place P gives (Err e) r' h = let p = err_from_is_err_and r' h in p.1 ∙ ap Err (gives e p.0 p.2)

-- What two equal answers say of one another.
use Rattle.std.proofs.Common.{◌≡◌, ℕ, Ok, Err, Result, ap, ◌∙◌, arith}
use Rattle.std.specs.Result.{IsErrAnd}
use Rattle.std.proofs.lemmas.Result.{err_from_is_err_and}

module _ {A E : Type 0} where
  pub never_both : (x : A) (e : E) → ◌≡◌ {A = Result A E} (Ok x) (Err e) → ⊥
  never_both x e h = let z : ◌≡◌ {A = ℕ} 0 1 = cc in omega arith

  pub same_value : (x y : A) → ◌≡◌ {A = Result A E} (Ok x) (Ok y) → x ≡ y
  same_value x y h = cc

  pub same_error : (e f : E) → ◌≡◌ {A = Result A E} (Err e) (Err f) → e ≡ f
  same_error e f h = cc

  -- an error that `?` hands on
  pub handed_on : (f : E) (r : Result A E) → IsErrAnd r (λ e. e ≡ f) → r ≡ Err f
  handed_on f r h = let p = err_from_is_err_and r h in p.1 ∙ ap Err p.2

-- Arrays that `array::from_fn` makes with a closure that changes nothing, by what each call says of its element.
use Rattle.std.proofs.Common.{◌≡◌, ℕ, zero, suc, ◌+◌, ◌<◌, List, get_or, sym, subst, refl, arith}
use Rattle.std.specs.Array.{IsFromFnResult, IsFromFnResultFrom}
use Rattle.octets.specs.Lists.{table}
use Rattle.octets.proofs.Tables.{is_table}
use denote.Param.Members.{Mut, Called}

module _ {F B : Type 0} (g : Mut F (ℕ × Unit {0}) B) (f : F) (P : ℕ → B → Type 0) where
  abbrev pub Each : ℕ → Type 0
  Each n = (i : ℕ) (y : B) (q : F) → i < n → Called g f (i, tt) y q → P i y × (q ≡ f)

  each_from : (n : ℕ) → Each n → (ys : List B) (m i : ℕ) (p : F) → p ≡ f → i + m ≡ n → IsFromFnResultFrom g p ys i m
      → (k : ℕ) (d : B) (j : ℕ) → k < m → j ≡ i + k → P j (get_or ys j d)
  each_from n pure ys zero i p e sum calls k d j lt at = absurd (omega arith)
  each_from n pure ys (suc m) i p e sum calls zero d j lt at =
      let called : Called g f (i, tt) calls.1 calls.0 = subst (λ (x : F). Called g x (i, tt) calls.1 calls.0) e calls.3 in
      let this : i ≡ j = omega arith in
      subst (λ (v : ℕ). P v (get_or ys v d)) this (subst (P i) (sym (calls.2.1 d)) (pure i calls.1 calls.0 (omega arith) called).0)
  each_from n pure ys (suc m) i p e sum calls (suc k) d j lt at =
      let called : Called g f (i, tt) calls.1 calls.0 = subst (λ (x : F). Called g x (i, tt) calls.1 calls.0) e calls.3 in
      each_from n pure ys m (i + 1) calls.0 (pure i calls.1 calls.0 (omega arith) called).1 (omega arith) calls.4 k d j (omega arith) (omega arith)

  pub each_at : (n : ℕ) (ys : List B) → Each n → IsFromFnResult g f ys n → (k : ℕ) (d : B) → k < n → P k (get_or ys k d)
  each_at n ys pure it k d lt = each_from n pure ys n 0 f refl (omega arith) it.each k d k lt (omega arith)

-- the same where a call gives a value
module _ {F B : Type 0} (g : Mut F (ℕ × Unit {0}) B) (f : F) (h : ℕ → B) where
  abbrev pub Pure : ℕ → Type 0
  Pure n = Each g f (λ i y. y ≡ h i) n

  pub made_at : (n : ℕ) (ys : List B) → Pure n → IsFromFnResult g f ys n → (k : ℕ) (d : B) → k < n → get_or ys k d ≡ h k
  made_at n ys pure it k d lt = each_at g f (λ i y. y ≡ h i) n ys pure it k d lt

-- a list of numbers
pub made_table : {F : Type 0} (g : Mut F (ℕ × Unit {0}) ℕ) (f : F) (h : ℕ → ℕ) (n : ℕ) (ys : List ℕ) → Pure g f h n → IsFromFnResult g f ys n → ys ≡ table n h
made_table g f h n ys pure it = is_table n h ys it.long (λ k lt. made_at g f h n ys pure it k 0 lt)

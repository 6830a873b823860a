-- Tables whose rows are decided.
use Rattle.std.proofs.Common.{◌≡◌, ℕ, zero, suc, ◌<◌, Bool, true, false, ◌⊎◌, [], ◌∷◌, refl, subst}
use Rattle.std.proofs.Common.{inl, inr, ⊎_elim, arith}
use Rattle.std.proofs.lemmas.Bool.{false≢true, cases_eq}
use Rattle.faults.specs.Tables.{Table, By, Not, Clear}

-- each row applies or does not
abbrev pub Decided : {Fault : Type 0} → Table Fault → Type 0
Decided [] = Unit {0}
Decided (row ∷ rows) = Dec row.0 × Decided rows

-- then the call was refused, or it was done and no row applied
module _ {Fault : Type 0} (refused : Fault → Type 0) (done : Type 0) where
  pub settled : (rows : Table Fault) → Decided rows → By rows refused done
      → ((f : Fault) × refused f) ⊎ (done × Clear rows)
  settled [] d b = inr (b, tt)
  settled (row ∷ rows) d b =
      elim d.0 [
        | yes a ↦ inl (row.1, b.0 a)
        | no n ↦ ⊎_elim inl (λ h. inr (h.0, (n, h.1))) (settled rows d.1 (b.1 n))
      ]

-- and the call has an outcome
pub outcome : {Fault X : Type 0} (refused : X → Fault → Type 0) (done : X → Type 0)
    (refuse : Fault → X) → ((f : Fault) → refused (refuse f) f)
    → (rows : Table Fault) → Decided rows → (Clear rows → (x : X) × done x)
    → (x : X) × By rows (refused x) (done x)
outcome refused done refuse r [] decided d = d tt
outcome {Fault} {X} refused done refuse r (row ∷ rows) decided d =
    elim decided.0 [
      | yes a ↦ (refuse row.1, (λ h. r row.1, λ n. absurd (n a)))
      | no n ↦ let more : (x : X) × By rows (refused x) (done x) =
          outcome refused done refuse r rows decided.1 (λ c. d (n, c)) in
          (more.0, (λ h. absurd (n h), λ h. more.1))
    ]

pub dec_not : {A : Type 0} → Dec A → Dec (Not A)
dec_not (yes a) = no (λ n. n a)
dec_not (no n) = yes n

pub dec_both : {A B : Type 0} → Dec A → Dec B → Dec (A × B)
dec_both (yes a) (yes b) = yes (a, b)
dec_both (yes a) (no n) = no (λ h. n h.1)
dec_both (no n) d = no (λ h. n h.0)

pub dec_true : (b : Bool) → Dec (b ≡ true)
dec_true true = yes refl
dec_true false = no false≢true

pub dec_below : (P : ℕ → Type 0) → ((k : ℕ) → Dec (P k)) → (n : ℕ) → Dec ((k : ℕ) × (k < n) × P k)
dec_below P d zero = no (λ h. omega (arith, h.1))
dec_below P d (suc n) =
    elim (dec_below P d n) [
      | yes h ↦ yes (h.0, omega (arith, h.1), h.2)
      | no m ↦ elim (d n) [
        | yes p ↦ yes (n, omega arith, p)
        | no q ↦ no (λ h.
            ⊎_elim (λ e. q (subst P e h.2)) (λ d. m (h.0, omega (arith, h.1), h.2))
            (cases_eq h.0 n))
      ]
    ]

-- What a table of refusals settles.
use Rattle.std.proofs.Common.{◌≡◌, ℕ, [], ◌∷◌, ◌++◌, inl, inr}
use Rattle.std.proofs.lemmas.Bool.{cases_eq}
use Rattle.faults.specs.Tables.{Not, Table, By, Clear}

module _ {Cause : Type 0} (refused : Cause → Type 0) (done : Type 0) where
  -- where no row applies, the call is done
  pub done_from_clear : (rows : Table Cause) → Clear rows → By rows refused done → done
  done_from_clear [] c b = b
  done_from_clear (row ∷ rows) c b = done_from_clear rows c.1 (b.1 c.0)

  -- where no refusal is possible, no row applied, and the call was done
  pub done_when : (rows : Table Cause) → ((c : Cause) → refused c → ⊥) → By rows refused done → Clear rows × done
  done_when [] f b = (tt, b)
  done_when (row ∷ rows) f b =
      let not : Not row.0 = λ r. f row.1 (b.0 r) in
      let h : Clear rows × done = done_when rows f (b.1 not) in
      ((not, h.0), h.1)

-- what follows from a refusal and from being done follows by the same table
pub by_follows : {Cause : Type 0} {refused refused' : Cause → Type 0} {done done' : Type 0} (rows : Table Cause) → ((c : Cause) → refused c → refused' c) → (done → done') → By rows refused done → By rows refused' done'
by_follows [] f g b = g b
by_follows (row ∷ rows) f g b = (λ r. f row.1 (b.0 r), λ n. by_follows rows f g (b.1 n))

-- facts of numbers that are not refused hold
pub stable_eq : (a b : ℕ) → Not (Not (a ≡ b)) → a ≡ b
stable_eq a b n = elim (cases_eq a b) [ inl e ↦ e | inr m ↦ absurd (n m) ]

-- and by a longer table, whose further rows decide where the first were done with
module _ {Cause : Type 0} (refused refused' : Cause → Type 0) (done done' : Type 0) (more : Table Cause) where
  pub by_then : (rows : Table Cause) → ((c : Cause) → refused c → refused' c) → (done → By more refused' done') → By rows refused done → By (rows ++ more) refused' done'
  by_then [] f g b = g b
  by_then (row ∷ rows) f g b = (λ r. f row.1 (b.0 r), λ n. by_then rows f g (b.1 n))

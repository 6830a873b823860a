-- One place more.
use Rattle.std.proofs.Common.{◌≡◌, ℕ, ◌+◌, ◌<◌, List, [], ◌∷◌, ◌++◌, length, Result, IsOk, sym, refl, subst, add-one, arith}
use Rattle.faults.specs.Tables.{Not}
use Rattle.faults.specs.declared.ShelfFault.{ShelfFault}
use Rattle.shelf.specs.Meaning.{Meaning, Gets}
use Rattle.inventory.specs.declared.held.HeldRecord.{HeldRecord}
use Rattle.records.specs.Records.{empty, number_in}
use Rattle.inventory.specs.Inventory.{Inventory, skip, hold}

-- inside, with a buffer of the right length, a get is not refused
pub got_ok : (m : Meaning) (p : ℕ) (buffer buffer' : List ℕ) (answer : Result (Unit {0}) ShelfFault) → length buffer ≡ 1024 → p < m.count → Gets m p buffer answer buffer' → IsOk answer
got_ok m p buffer buffer' answer long inside gets =
    let done = (gets.1 (λ n. n long)).1 (λ out. omega arith) in
    subst (λ (r : Result (Unit {0}) ShelfFault). IsOk r) (sym done.0) refl

module _ (m : Meaning) (p : ℕ) (items items' : List HeldRecord) (before : Inventory m p items) where
  pub skipped : m.bytes p ≡ empty → items' ≡ items → Inventory m (p + 1) items'
  skipped none e = rw (add-one p, e) (skip none before)

  pub held : (number : ℕ) → Not (m.bytes p ≡ empty) → number ≡ number_in (m.bytes p) → items' ≡ items ++ (record { place = p; number = number } ∷ [])
      → Inventory m (p + 1) items'
  held number some n e = rw (add-one p, e, n) (hold some before)

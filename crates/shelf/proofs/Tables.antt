-- A call on a shelf by what its table answered.
use Rattle.std.proofs.Common.{◌≡◌, ℕ, ◌<◌, List, length, Ok, Result, rules, arith}
use Rattle.std.proofs.lemmas.Grind.{common_steps}
use Rattle.faults.specs.Tables.{Clear}
use Rattle.faults.specs.declared.ShelfFault.{ShelfFault}
use Rattle.shelf.specs.Meaning.{Meaning, Open, get_table, put_table, Gets, Puts, Placed}

module _ (m : Meaning) (p : ℕ) where
  -- what it says that no row applies
  pub get_allowed : (room : ℕ) → Clear (get_table m p room) → (room ≡ 1024) × (p < m.count)
  get_allowed room a = (grind (arith, common_steps), grind (arith, common_steps))

  pub put_allowed : (size : ℕ) → Clear (put_table m p size) → (size ≡ 1024) × (p < m.count) × Open m p
  put_allowed size a = (grind (arith, common_steps), grind (arith, common_steps), grind (arith, common_steps))

  -- and then it is done
  pub get_done : (buffer buffer' : List ℕ) → Clear (get_table m p (length buffer)) → buffer' ≡ m.bytes p → Gets m p buffer (Ok tt) buffer'
  get_done buffer buffer' a e = search rules

  pub put_done : (bytes : List ℕ) (m' : Meaning) → Clear (put_table m p (length bytes)) → Placed m p bytes m' → Puts m p bytes (Ok tt) m'
  put_done bytes m' a d = search rules

  -- inside, with a buffer of the right length, a get is done
  pub got : (buffer buffer' : List ℕ) (answer : Result (Unit {0}) ShelfFault) → length buffer ≡ 1024 → p < m.count → Gets m p buffer answer buffer' → buffer' ≡ m.bytes p
  got buffer buffer' answer l h g = grind (arith, common_steps)

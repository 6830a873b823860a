-- An unlocking into a buffer of the right length, by its answer.
use Rattle.std.proofs.Common.{◌≡◌, ℕ, ◌-◌, List, length, Ok, Err, Result, sym, subst}
use Rattle.faults.specs.Causes.{left, from_mode}
use Rattle.faults.specs.Tables.{By, Clear}
use Rattle.faults.specs.declared.ModeFault.{ModeFault}
use Rattle.faults.proofs.Results.{never_both, same_error}
use Rattle.faults.proofs.Tables.{done_when, by_follows}
use Rattle.saturnin.specs.Rounds.{forward}
use Rattle.locked.specs.Locked.{FileHoldsOnly, unlock_table, Unlocks}
use Rattle.desk.specs.Locks.{unlock_rows}

abbrev Is : Result (Unit {0}) ModeFault → Result (Unit {0}) ModeFault → Type 0
Is a b = a ≡ b

pub unlock_done : (key file out out' : List ℕ) (x : Unit {0}) → length out ≡ length file - 56
    → Unlocks forward key file out (Ok x) out' → Clear (unlock_rows key file) × FileHoldsOnly forward key file out'
unlock_done key file out out' x l h =
    let w = done_when (λ fault. Is (Ok x) (Err fault) × (out' ≡ left (from_mode fault) out))
    (Is (Ok x) (Ok tt) × FileHoldsOnly forward key file out')
    (unlock_table forward key file (length out)) (λ fault r. never_both x fault r.0) h in
    (subst (λ n. Clear (unlock_table forward key file n)) l w.0, w.1.1)

pub unlock_refused : (key file out out' : List ℕ) (fault : ModeFault) → length out ≡ length file - 56
    → Unlocks forward key file out (Err fault) out' → By (unlock_rows key file) (λ row. fault ≡ row) ⊥
unlock_refused key file out out' fault l h =
    subst (λ n. By (unlock_table forward key file n) (λ row. fault ≡ row) ⊥) l
    (by_follows (unlock_table forward key file (length out))
    (λ row (r : Is (Err fault) (Err row) × (out' ≡ left (from_mode row) out)). same_error fault row r.0)
    (λ (d : Is (Err fault) (Ok tt) × FileHoldsOnly forward key file out'). never_both tt fault (sym d.0)) h)

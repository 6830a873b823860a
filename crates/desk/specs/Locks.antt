-- What `majgunter lock` writes, and what `majgunter unlock` writes.
use Rattle.std.specs.Prelude.{◌≡◌, ◌≤◌, ℕ, ◌+◌, ◌-◌, List, length, Ok, Err, Result}
use Rattle.faults.specs.Tables.{Table, By, Clear}
use Rattle.faults.specs.declared.ModeFault.{ModeFault}
use Rattle.saturnin.specs.Rounds.{forward}
use Rattle.locked.specs.Locked.{locked, lock_table, FileHoldsOnly, unlock_table}
use Rattle.desk.specs.declared.unmade.Unmade.{Unmade}
use Rattle.desk.specs.declared.unmade.Unmade.TheVariants.{Refused, Unfit, Memory}

-- why a locking is refused, with a buffer of the right length for the file
abbrev pub lock_rows : (key nonce message : ℕ) → Table ModeFault
lock_rows key nonce message = lock_table key nonce message (56 + message)

-- an answer: the locked file, a refusal by the table, or no memory where no row applies; `bytes`
-- are those of what was made
abbrev pub LockAnswer : {Bytes : Type 0} → (bytes : Bytes → List ℕ) → (key nonce message : List ℕ)
    → Result Bytes Unmade → Type 0
LockAnswer bytes key nonce message (Ok file) =
    Clear (lock_rows (length key) (length nonce) (length message))
    × (bytes file ≡ locked forward key nonce message)
LockAnswer bytes key nonce message (Err (Refused fault)) =
    By (lock_rows (length key) (length nonce) (length message)) (λ row. fault ≡ row) ⊥
LockAnswer bytes key nonce message (Err (Unfit fault)) = ⊥
LockAnswer bytes key nonce message (Err Memory) =
    Clear (lock_rows (length key) (length nonce) (length message))

-- why an unlocking is refused, with a buffer of the right length for the message
abbrev pub unlock_rows : (key file : List ℕ) → Table ModeFault
unlock_rows key file = unlock_table forward key file (length file - 56)

-- a key and a file, by their lengths, that a message may be locked in
abbrev pub MayUnlock : (key file : ℕ) → Type 0
MayUnlock key file = (key ≡ 32) × (56 ≤ file) × (file ≤ 65592)

-- an answer: the message that the file holds, a refusal by the table, or no memory for a message
-- that the file may hold
abbrev pub UnlockAnswer : {Bytes : Type 0} → (bytes : Bytes → List ℕ) → (key file : List ℕ)
    → Result Bytes Unmade → Type 0
UnlockAnswer bytes key file (Ok message) =
    Clear (unlock_rows key file) × FileHoldsOnly forward key file (bytes message)
UnlockAnswer bytes key file (Err (Refused fault)) = By (unlock_rows key file) (λ row. fault ≡ row) ⊥
UnlockAnswer bytes key file (Err (Unfit fault)) = ⊥
UnlockAnswer bytes key file (Err Memory) = MayUnlock (length key) (length file)

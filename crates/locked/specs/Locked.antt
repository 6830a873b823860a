-- Locked files: their format, and the tables and results of locking and unlocking.
use Rattle.std.specs.Prelude.{◌≡◌, ℕ, ◌+◌, ◌<◌, List, [], ◌∷◌, ◌++◌, length, Ok, Err, codes, Result}
use Rattle.faults.specs.Causes.{left, mode_fault, from_mode}
use Rattle.faults.specs.Tables.{Table, By, Not}
use Rattle.faults.specs.declared.ModeCause.TheVariants.{Length, Limit, Tag}
use Rattle.faults.specs.declared.ModeFault.{ModeFault}
use Rattle.octets.specs.Octets.{Octets}
use Rattle.cipher.specs.Meaning.{BlockFunction}
use Rattle.modes.specs.Cascade.{ctr, tag}

-- the word that a locked file begins with, which is also its associated data
abbrev pub magic : List ℕ
magic = codes "MGL1"

-- the magic word (4 bytes), the nonce (20), the tag (32) and the ciphertext
unfoldable pub locked : BlockFunction → (key nonce message : List ℕ) → List ℕ
locked f key nonce message =
    let text : List ℕ = ctr f key nonce message in
    magic ++ (nonce ++ (tag f key nonce magic text ++ text))

-- key, nonce, message and file buffer by their lengths
abbrev pub lock_table : (key nonce message file : ℕ) → Table ModeFault
lock_table key nonce message file =
    (Not ((key ≡ 32) × (nonce ≡ 20) × (file ≡ 56 + message)), mode_fault Length)
    ∷ (65536 < message, mode_fault Limit)
    ∷ []

-- a locking, by its answer and by what the file's buffer holds after it
abbrev pub Locks :
    BlockFunction → (key nonce message file : List ℕ)
    → Result (Unit {0}) ModeFault → (file' : List ℕ) → Type 0
Locks f key nonce message file answer file' =
    By (lock_table (length key) (length nonce) (length message) (length file))
    (λ fault. (answer ≡ Err fault) × (file' ≡ file))
    ((answer ≡ Ok tt) × (file' ≡ locked f key nonce message))

-- a file that locking this message under some nonce gives
pub record FileHolds (f : BlockFunction) (key file message : List ℕ) : Type 0 where
  pub nonce : List ℕ
  pub nonce_long : length nonce ≡ 20
  pub bytes : Octets message
  pub file_is : file ≡ locked f key nonce message

-- the message that a file holds; the key tells it from every other, under whatever nonce
abbrev pub FileHoldsOnly : BlockFunction → (key file message : List ℕ) → Type 0
FileHoldsOnly f key file message =
    FileHolds f key file message
    × ((other : List ℕ) → FileHolds f key file other → other ≡ message)

-- key, file, and the buffer for the message by its length; a file without a message is damaged,
-- locked by another key, or no locked file
abbrev pub unlock_table : BlockFunction → (key file : List ℕ) (out : ℕ) → Table ModeFault
unlock_table f key file out =
    (Not ((length key ≡ 32) × (length file ≡ 56 + out)), mode_fault Length)
    ∷ (65536 < out, mode_fault Limit)
    ∷ (Not ((message : List ℕ) × FileHolds f key file message), mode_fault Tag)
    ∷ []

-- an unlocking, by its answer and by what the buffer for the message holds after it
abbrev pub Unlocks :
    BlockFunction → (key file out : List ℕ)
    → Result (Unit {0}) ModeFault → (out' : List ℕ) → Type 0
Unlocks f key file out answer out' =
    By (unlock_table f key file (length out))
    (λ fault. (answer ≡ Err fault) × (out' ≡ left (from_mode fault) out))
    ((answer ≡ Ok tt) × FileHoldsOnly f key file out')

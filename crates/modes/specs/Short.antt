-- Short: its block, the tables and results of sealing and opening, and that opening is exact.
use Rattle.std.specs.Prelude.{◌≡◌, ℕ, ◌-◌, ◌<◌, ◌≤◌, List, [], ◌∷◌, ◌++◌, length, Ok, Err, Result}
use Rattle.faults.specs.Causes.{left, mode_fault, from_mode}
use Rattle.faults.specs.Tables.{Table, By, Not, Clear}
use Rattle.faults.specs.declared.ModeCause.TheVariants.{Length, Limit, Padding}
use Rattle.faults.specs.declared.ModeFault.{ModeFault}
use Rattle.cipher.specs.Meaning.{BlockFunction}
use Rattle.octets.specs.Octets.{Octets, zeros}
use Rattle.modes.specs.Bytes.{padded}

-- a nonce of 16 bytes and the message, padded to 16, in one block by separator 6
unfoldable pub short : BlockFunction → (key nonce message : List ℕ) → List ℕ
short f key nonce message = f key 6 10 (nonce ++ padded 16 message)

-- key, nonce, message and block by their lengths
abbrev pub short_table : (key nonce message block : ℕ) → Table ModeFault
short_table key nonce message block =
    (Not ((key ≡ 32) × (nonce ≡ 16) × (block ≡ 32)), mode_fault Length)
    ∷ (15 < message, mode_fault Limit)
    ∷ []

-- a sealing, by its answer and by what the block's buffer holds after it
abbrev pub ShortSeals :
    BlockFunction → (key nonce message block : List ℕ)
    → Result (Unit {0}) ModeFault → (block' : List ℕ) → Type 0
ShortSeals f key nonce message block answer block' =
    By (short_table (length key) (length nonce) (length message) (length block))
    (λ fault. (answer ≡ Err fault) × (block' ≡ block))
    ((answer ≡ Ok tt) × (block' ≡ short f key nonce message))

-- the block, turned back, is this nonce and this message, padded
abbrev pub BlockHolds : BlockFunction → (key nonce block message : List ℕ) → Type 0
BlockHolds back key nonce block message =
    (length message ≤ 15) × (back key 6 10 block ≡ nonce ++ padded 16 message)

-- key, nonce, block and output buffer by their lengths, and then whether the block holds a message
abbrev pub short_open_table : BlockFunction → (key nonce block out : List ℕ) → Table ModeFault
short_open_table back key nonce block out = (
  Not ((length key ≡ 32) × (length nonce ≡ 16) × (length block ≡ 32) × (length out ≡ 15)),
  mode_fault Length,
)
    ∷ (Not ((message : List ℕ) × BlockHolds back key nonce block message), mode_fault Padding)
    ∷ []

-- what the buffer of 15 bytes holds of a message: the message, then zeros
abbrev pub filled : (message : List ℕ) → List ℕ
filled message = message ++ zeros (15 - length message)

-- an opening, by its answer, the length of the message, and by what the buffer for the message
-- holds after it
abbrev pub ShortOpens :
    BlockFunction → (key nonce block out : List ℕ) → Result ℕ ModeFault → (out' : List ℕ) → Type 0
ShortOpens back key nonce block out answer out' =
    By (short_open_table back key nonce block out)
    (λ fault. (answer ≡ Err fault) × (out' ≡ left (from_mode fault) out))
    ((message : List ℕ)
    × BlockHolds back key nonce block message
    × (answer ≡ Ok (length message)) × (out' ≡ filled message))

-- sealing this message is not refused and gives this block
pub record ShortSealsTo (f : BlockFunction) (key nonce message block : List ℕ) : Type 0 where
  pub bytes : Octets message
  pub taken : Clear (short_table (length key) (length nonce) (length message) (length block))
  pub block_is : block ≡ short f key nonce message

-- an opening into a buffer of 15 bytes is done exactly when there is a message whose sealing gives
-- the block; then it gives that message, and there is no other
pub record ShortOpensExactly (f : BlockFunction) (key nonce block out : List ℕ)
    (answer : Result ℕ ModeFault) (out' : List ℕ) : Type 0 where
  pub sound :
      (n : ℕ) → answer ≡ Ok n
      → (message : List ℕ)
      × ShortSealsTo f key nonce message block × (length message ≡ n) × (out' ≡ filled message)
  pub complete :
      (message : List ℕ) → ShortSealsTo f key nonce message block → length out ≡ 15
      → (answer ≡ Ok (length message)) × (out' ≡ filled message)
  pub only :
      (m n : List ℕ) → ShortSealsTo f key nonce m block → ShortSealsTo f key nonce n block → m ≡ n

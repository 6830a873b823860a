-- Counter blocks: what they are, and what they are as numbers.
use Rattle.std.specs.Prelude.{◌≡◌, ℕ, ◌/◌, ◌%◌, ◌^◌, ◌<◌, List, [], ◌∷◌, length, Ok, Err, Result}
use Rattle.faults.specs.Causes.{mode_fault}
use Rattle.faults.specs.Tables.{Table, By}
use Rattle.faults.specs.declared.ModeCause.TheVariants.{Limit}
use Rattle.faults.specs.declared.ModeFault.{ModeFault}
use Rattle.octets.specs.Octets.{big_endian, spelt}
use Rattle.modes.specs.Bytes.{xor, padded}

-- the nonce, padded to 32 bytes, with the counter in its last 95 bits
unfoldable pub counter_block : (nonce : List ℕ) (counter : ℕ) → List ℕ
counter_block nonce counter = xor (padded 32 nonce) (big_endian 32 counter)

-- as a number: its last 95 bits are the counter, and the bits before them are those of the padded
-- nonce
pub record CounterHeld (nonce : List ℕ) (counter : ℕ) : Type 0 where
  pub long : length (counter_block nonce counter) ≡ 32
  pub last : spelt (counter_block nonce counter) 0 % 2 ^ 95 ≡ counter
  pub before : spelt (counter_block nonce counter) 0 / 2 ^ 95 ≡ spelt (padded 32 nonce) 0 / 2 ^ 95

-- nonce by its length
abbrev pub counter_table : (nonce : ℕ) → Table ModeFault
counter_table nonce = (20 < nonce, mode_fault Limit) ∷ []

-- a call for a counter block, by its answer; `bytes` are those of the block that was made
abbrev pub Counts :
    {Block : Type 0} → (bytes : Block → List ℕ) (nonce : List ℕ) (counter : ℕ)
    → Result Block ModeFault → Type 0
Counts {Block} bytes nonce counter answer =
    By (counter_table (length nonce))
    (λ fault. answer ≡ Err fault)
    ((block : Block)
    × (answer ≡ Ok block) × (bytes block ≡ counter_block nonce counter) × CounterHeld nonce counter)

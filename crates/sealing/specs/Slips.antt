-- Sealing and opening a slip: their tables and results.
use Rattle.std.specs.Prelude.{◌≡◌, ℕ, ◌<◌, List, [], ◌∷◌, length, Ok, Err, Result}
use Rattle.faults.specs.Causes.{mode_fault}
use Rattle.faults.specs.Tables.{Table, By, Not}
use Rattle.faults.specs.declared.ModeCause.TheVariants.{Limit, Padding}
use Rattle.faults.specs.declared.ModeFault.{ModeFault}
use Rattle.octets.specs.Octets.{zeros}
use Rattle.cipher.specs.Meaning.{BlockFunction}
use Rattle.modes.specs.Short.{BlockHolds, filled}
use Rattle.records.specs.Records.{slip_nonce, slip_block}
use Rattle.records.specs.Sheets.{slip_under}

abbrev pub seal_slip_table : (message : List ℕ) → Table ModeFault
seal_slip_table message = (15 < length message, mode_fault Limit) ∷ []

-- a sealing, by its answer and by what the bytes of the slip are after it
abbrev pub SealsSlip : BlockFunction → (key nonce message bytes : List ℕ)
    → Result (Unit {0}) ModeFault → (bytes' : List ℕ) → Type 0
SealsSlip f key nonce message bytes answer bytes' =
    By (seal_slip_table message)
    (λ fault. (answer ≡ Err fault) × (bytes' ≡ bytes))
    ((answer ≡ Ok tt) × (bytes' ≡ slip_under f key nonce message))

-- what a slip holds: its block, turned back, is its nonce and this message
abbrev pub SlipHolds : (back : BlockFunction) → (key bytes message : List ℕ) → Type 0
SlipHolds back key bytes message =
    BlockHolds back key (slip_nonce bytes) (slip_block bytes) message

abbrev pub open_slip_table : (back : BlockFunction) → (key bytes : List ℕ) → Table ModeFault
open_slip_table back key bytes =
    (Not ((message : List ℕ) × SlipHolds back key bytes message), mode_fault Padding) ∷ []

-- an opening, by its answer, the length of the message, and by what the buffer of 15 bytes holds
-- after it
abbrev pub OpensSlip : (back : BlockFunction) → (key bytes : List ℕ)
    → Result ℕ ModeFault → (out' : List ℕ) → Type 0
OpensSlip back key bytes answer out' =
    By (open_slip_table back key bytes)
    (λ fault. (answer ≡ Err fault) × (out' ≡ zeros 15))
    ((message : List ℕ)
    × SlipHolds back key bytes message
    × (answer ≡ Ok (length message))
    × (out' ≡ filled message))

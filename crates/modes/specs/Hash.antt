-- Saturnin-Hash: its value, its table of refusals and its result.
use Rattle.std.specs.Prelude.{◌≡◌, ℕ, ◌<◌, List, [], ◌∷◌, length, Ok, Err, Result}
use Rattle.faults.specs.Causes.{mode_fault}
use Rattle.faults.specs.Tables.{Table, By, Not}
use Rattle.faults.specs.declared.ModeCause.TheVariants.{Length, Limit}
use Rattle.faults.specs.declared.ModeFault.{ModeFault}
use Rattle.cipher.specs.Meaning.{BlockFunction}
use Rattle.octets.specs.Octets.{zeros}
use Rattle.modes.specs.Chains.{chain}

-- from 32 zero bytes, by separators 7 and 8, with 16 super-rounds
unfoldable pub hash : BlockFunction → (message : List ℕ) → List ℕ
hash f message = chain f 7 8 16 (zeros 32) message

-- message and digest by their lengths
abbrev pub hash_table : (message digest : ℕ) → Table ModeFault
hash_table message digest =
    (Not (digest ≡ 32), mode_fault Length) ∷ (65536 < message, mode_fault Limit) ∷ []

-- a call of the hash, by its answer and by what the digest's buffer holds after it
abbrev pub Hashes :
    BlockFunction → (message digest : List ℕ)
    → Result (Unit {0}) ModeFault → (after : List ℕ) → Type 0
Hashes f message digest answer after =
    By (hash_table (length message) (length digest))
    (λ fault. (answer ≡ Err fault) × (after ≡ digest))
    ((answer ≡ Ok tt) × (after ≡ hash f message))

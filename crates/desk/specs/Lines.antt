-- What a line of `majgunter hash` says.
use Rattle.std.specs.Prelude.{◌≡◌, ℕ, ◌<◌, ◌≤◌, List, ◌++◌, length, Ok, Err, codes, Result}
use Rattle.faults.specs.Causes.{mode_fault}
use Rattle.faults.specs.declared.ModeCause.TheVariants.{Limit}
use Rattle.hex.specs.Hex.{encode_lower, decode_of}
use Rattle.modes.specs.Hash.{hash}
use Rattle.saturnin.specs.Rounds.{forward}
use Rattle.desk.specs.declared.unmade.Unmade.{Unmade}
use Rattle.desk.specs.declared.unmade.Unmade.TheVariants.{Refused, Unfit, Memory}

-- the hexadecimal digits of these bytes are read as the very bytes
abbrev pub DigitsSpell : (bytes : List ℕ) → Type 0
DigitsSpell bytes = decode_of (encode_lower bytes) ≡ Ok bytes

-- the digest in hexadecimal digits, two blanks and the name
abbrev pub digest_line : (name bytes : List ℕ) → List ℕ
digest_line name bytes = encode_lower (hash forward bytes) ++ (codes "  " ++ name)

-- an answer: the line, a refusal of what is over the limit and of nothing else, or no memory for
-- what is within it
abbrev pub DigestAnswer : {Text : Type 0} → (Text → List ℕ) → (name bytes : List ℕ)
    → Result Text Unmade → Type 0
DigestAnswer text name bytes (Ok line) =
    (length bytes ≤ 65536) × (text line ≡ digest_line name bytes)
DigestAnswer text name bytes (Err (Refused fault)) =
    (65536 < length bytes) × (fault ≡ mode_fault Limit)
DigestAnswer text name bytes (Err (Unfit fault)) = ⊥
DigestAnswer text name bytes (Err Memory) = length bytes ≤ 65536

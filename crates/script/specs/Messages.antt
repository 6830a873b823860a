-- What a message in a line stands for.
use Rattle.std.specs.Prelude.{◌≡◌, ◌≢◌, ◌⊎◌, ◌<◌, ◌^◌, ℕ, List, [], ◌∷◌, replicate, codes}
use Rattle.std.specs.Str.Parse.{IsNumeral, digits_value}
use Rattle.script.specs.declared.messages.Message.{Message}
use Rattle.script.specs.declared.messages.Message.TheVariants.{Written, Many}

-- a star, and digits after it
abbrev pub Starred : (text digits : List ℕ) → Type 0
Starred text digits = (text ≡ 42 ∷ digits) × IsNumeral 10 digits

-- a hyphen for no bytes, a star with a count for so many, and another text for its own
abbrev pub SpellsMessage : (text : List ℕ) → Message → Type 0
SpellsMessage text (Written bytes) =
    ((text ≡ codes "-") × (bytes.now ≡ []))
    ⊎ ((text ≢ codes "-") × (text ≢ [])
    × ((digits : List ℕ) → ¬ (Starred text digits)) × (bytes.now ≡ text))
SpellsMessage text (Many n) =
    (digits : List ℕ) × Starred text digits × (digits_value 10 digits ≡ n) × (n < 2 ^ 16)

-- its bytes: those written, or so many of 'x'
abbrev pub bytes_of : Message → List ℕ
bytes_of (Written text) = text.now
bytes_of (Many n) = replicate n 120

-- The words of a line, which blanks part, and the numbers that words spell.
use Rattle.std.specs.Prelude.{◌≡◌, ◌≢◌, ℕ, ◌<◌, ◌^◌, ◌==◌, ◌||◌, Bool, not, List, [], length}
use Rattle.std.specs.Prelude.{take, drop, position, Option, Some, None, IsUtf8}
use Rattle.std.specs.Str.Parse.{IsNumeral, digits_value, without_leading_plus}
use Rattle.std.specs.Option.{unwrap_or}

-- a space or a tab
abbrev pub is_blank : (b : ℕ) → Bool
is_blank b = (b == 32) || (b == 9)

-- where the first blank stands, or the end
abbrev pub end_of_word : (text : List ℕ) → ℕ
end_of_word text = unwrap_or (position is_blank text) (length text)

-- where the first byte that is no blank stands, or the end
abbrev pub start_of_word : (text : List ℕ) → ℕ
start_of_word text = unwrap_or (position (λ b. not (is_blank b)) text) (length text)

-- a text without the blanks that it begins with
abbrev pub without_blanks : (text : List ℕ) → List ℕ
without_blanks text = drop (start_of_word text) text

-- what stands before the first blank
abbrev pub first_word : (text : List ℕ) → List ℕ
first_word text = take (end_of_word text) text

-- what stands after that and the blanks that follow it
abbrev pub after_word : (text : List ℕ) → List ℕ
after_word text = without_blanks (drop (end_of_word text) text)

-- decimal digits, after a plus or none, of a number of so many bits
abbrev pub Numeral : (bits : ℕ) (word : List ℕ) (n : ℕ) → Type 0
Numeral bits word n =
    IsNumeral 10 (without_leading_plus word)
    × (digits_value 10 (without_leading_plus word) ≡ n)
    × (n < 2 ^ bits)

-- a word that is text, and so no bytes other than those of characters
abbrev pub IsText : (word : List ℕ) → Type 0
IsText word = (word ≢ []) × IsUtf8 word

-- a text of one word, which is this one
abbrev pub Only : (text word : List ℕ) → Type 0
Only text word = (first_word text ≡ word) × IsText word × (after_word text ≡ [])

-- a text of one word, which spells this number
abbrev pub OnlyNumeral : (bits : ℕ) (text : List ℕ) (n : ℕ) → Type 0
OnlyNumeral bits text n = Numeral bits (first_word text) n × (after_word text ≡ [])

-- what a text is read as: something that it spells, or nothing where it spells nothing
abbrev pub Parses : {A : Type 0} → (spells : A → Type 0) → Option A → Type 0
Parses spells (Some a) = spells a
Parses {A} spells None = (a : A) → ¬ (spells a)

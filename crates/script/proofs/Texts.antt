-- Numerals are text, and digits have no plus before them.
use Rattle.std.proofs.Common.{◌≡◌, ◌↔◌, ℕ, zero, suc, ◌<◌, Bool, true, false, List, [], ◌∷◌, length, drop, cond, ◌==◌, IsAscii, refl, sym, ap, subst, arith, rules, ne_eqb, ◌&&◌, ltb, ◌∙◌, IsTrue}
use Rattle.std.proofs.lemmas.Bool.{eqb-true, ltb-true}
use Rattle.std.proofs.lemmas.Fmt.{IsAscii-from_digits}
use Rattle.std.proofs.lemmas.Str.{IsUtf8-from_ascii}
use Rattle.std.proofs.lemmas.Str.Parse.{digit_from_value, IsNumeralModel, numerals_by_value}
use Rattle.std.specs.Char.{is_ascii_digit}
use Rattle.std.specs.List.{list_all}
use Rattle.std.specs.Str.Parse.{IsNumeral, AllDigits, digits_value, without_leading_plus}
use Rattle.script.specs.Words.{IsText, Numeral}

ascii_after : (c : ℕ) (cs : List ℕ) → c < 128 → IsAscii cs → IsAscii (c ∷ cs)
ascii_after c cs h a zero = h
ascii_after c cs h a (suc i) = a i

ascii : (c : ℕ) (cs : List ℕ) (plus : Bool) → (plus ≡ true → c < 128) → AllDigits 10 (drop (cond plus 1 0) (c ∷ cs)) → IsAscii (c ∷ cs)
ascii c cs true h d = ascii_after c cs (h refl) (IsAscii-from_digits cs d)
ascii c cs false h d = IsAscii-from_digits (c ∷ cs) d

pub numeral_is_text : (bits : ℕ) (word : List ℕ) (n : ℕ) → Numeral bits word n → IsText word
numeral_is_text bits [] n h = absurd (omega (arith, h.0.0))
numeral_is_text bits (c ∷ cs) n h = (grind arith, IsUtf8-from_ascii (c ∷ cs) (ascii c cs (c == 43) (λ e. omega (arith, eqb-true c 43 e)) h.0.1))

no_plus : (xs : List ℕ) (plus : Bool) → plus ≡ false → drop (cond plus 1 0) xs ≡ xs
no_plus xs plus e = ap (λ b. drop (cond b 1 0) xs) e

pub plain : (digits : List ℕ) → IsNumeral 10 digits → without_leading_plus digits ≡ digits
plain [] h = refl
plain (c ∷ cs) h = no_plus (c ∷ cs) (c == 43) (ne_eqb c 43 (λ e. omega (arith, digit_from_value c h.1.0, e)))

-- a test of each byte tells a numeral
digits_told : IsNumeralModel (λ ds. list_all is_ascii_digit ds ≡ true) (digits_value 10)
digits_told = numerals_by_value _ (search rules)

pub tells_numeral : (word : List ℕ) (answer : Bool) → 0 < length word → answer ≡ list_all is_ascii_digit word → IsTrue answer ↔ IsNumeral 10 word
tells_numeral word answer some e = (λ t. (some, digits_told.to word (sym e ∙ t)), λ n. e ∙ digits_told.from word n.1)

pub both : (a b : Bool) → (a && b) ≡ true → (a ≡ true) × (b ≡ true)
both true b e = (refl, e)
both false b e = absurd (grind arith)

ascii_all : (bs : List ℕ) → list_all (λ c. ltb c 128) bs ≡ true → IsAscii bs
ascii_all [] e i = omega arith
ascii_all (b ∷ bs) e i = let parts : (ltb b 128 ≡ true) × (list_all (λ c. ltb c 128) bs ≡ true) = both _ _ e in ascii_after b bs (omega (arith, ltb-true b 128 parts.0)) (ascii_all bs parts.1) i

abbrev pub is_name : List ℕ → Bool
is_name [] = false
is_name (b ∷ bs) = list_all (λ c. ltb c 128) (b ∷ bs)

literal : (known : List ℕ) → is_name known ≡ true → IsText known
literal [] e = absurd (grind arith)
literal (b ∷ bs) e = (grind arith, IsUtf8-from_ascii (b ∷ bs) (ascii_all (b ∷ bs) e))

-- a name that is spelt in ASCII is text
pub named_by : (known : List ℕ) → is_name known ≡ true → (name : List ℕ) → name ≡ known → IsText name
named_by known e name is = subst IsText (sym is) (literal known e)

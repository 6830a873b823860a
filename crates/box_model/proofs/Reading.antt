-- What a read finds of what was left at its place.
use Rattle.std.proofs.Common.{◌≡◌, ℕ, ◌<◌, ◌≤◌, ◌^◌, List, length, Some, None, Ok, Option, Result}
use Rattle.std.proofs.Common.{ap, ◌∙◌, ap₂, arith}
use Rattle.faults.specs.declared.BoxFault.{BoxFault}
use Rattle.octets.specs.Octets.{zeros, part}
use Rattle.shelf.specs.Meaning.{Meaning}
use Rattle.records.specs.Records.{empty, number_in, label_in, length_in}
use Rattle.records.specs.Sheets.{sheet, opened}
use Rattle.box_model.specs.States.{State, Made, Fair}
use Rattle.box_model.specs.Calls.{Reads}
use Rattle.box_model.specs.Effects.{Left, a_sheet, nothing}
use Rattle.box_model.specs.Laws.{Gives}
use Rattle.box_model.proofs.Numbers.{InRange}
use Rattle.box_model.proofs.Opening.{Lies, number_ok, not_empty, length_ok, formed, tagged}
use Rattle.box_model.proofs.Opening.{opened_lies}

-- the bytes of a place where that was left
abbrev pub Is : Made → ℕ → Left → List ℕ → Type 0
Is made p (a_sheet n label message) bytes =
    (bytes ≡ sheet made.forward made.key made.sign n p label message)
    × InRange n × (length label ≡ 46) × (length message ≤ 928)
Is made p nothing bytes = bytes ≡ empty

abbrev pub Held : Made → ℕ → Option Left → Meaning → Type 0
Held made p None m = Unit {0}
Held made p (Some w) m = (p < m.count) × Is made p w (m.bytes p)

module _ (made : Made) (fair : Fair made) (s : State) (p : ℕ) (buffer after : List ℕ)
    (answer : Result (ℕ × ℕ) BoxFault) (fits : length buffer ≡ 1024) where
  sheet_given : (n : ℕ) (label message : List ℕ)
      → Held made p (Some (a_sheet n label message)) s.shelf
      → Reads made s p buffer answer after → Gives p (Some (a_sheet n label message)) answer after
  sheet_given n label message held does = (
    done.0
        ∙ ap₂ (λ (x y : ℕ). Ok (x, y))
        (number_ok made fair n p label message whole small bytes is low)
        (length_ok made fair n p label message whole small bytes is),
    ap label_in done.1 ∙ lies.label_is,
    ap (part 64 (length message)) done.1 ∙ lies.text_is,
  )
    where
      bytes : List ℕ
      bytes = s.shelf.bytes p

      is : bytes ≡ sheet made.forward made.key made.sign n p label message
      is = held.1.0

      whole : length label ≡ 46
      whole = held.1.2

      small : length message ≤ 928
      small = held.1.3

      low : n < 2 ^ 64
      low = omega (arith, held.1.1)

      done : (answer ≡ Ok (number_in bytes, length_in bytes))
          × (after ≡ opened made.forward made.key bytes)
      done =
          ((((does.1 (λ no'. no' fits)).1 (λ out. omega (arith, held.0))).1
          (not_empty made fair n p label message whole small bytes is held.1.1.0 low)).1
          (λ no'. no' (formed made fair n p label message whole small bytes is))).1
          (λ no'. no' (tagged made fair n p label message whole small bytes is))

      lies : Lies made fair n p label message whole small message
          (opened made.forward made.key bytes)
      lies = opened_lies made fair n p label message whole small bytes is

  pub given : (o : Option Left) → Held made p o s.shelf → Reads made s p buffer answer after
      → Gives p o answer after
  given None held does = tt
  given (Some nothing) held does =
      let gone = ((does.1 (λ no'. no' fits)).1 (λ out. omega (arith, held.0))).0 held.1 in
      (gone.0, gone.1 ∙ ap zeros fits)
  given (Some (a_sheet n label message)) held does = sheet_given n label message held does

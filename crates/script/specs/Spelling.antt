-- The lines that calls are spelt by: the name of a call first, and the rest after it.
use Rattle.std.specs.Prelude.{◌≡◌, ℕ, List, [], codes}
use Rattle.script.specs.Words.{first_word, after_word, without_blanks, IsText, Only, Numeral}
use Rattle.script.specs.Words.{OnlyNumeral}
use Rattle.script.specs.Messages.{SpellsMessage}
use Rattle.script.specs.declared.box_calls.BoxCall.{BoxCall}
use Rattle.script.specs.declared.box_calls.BoxCall.TheVariants.{Draw, Seal, Slip, Void, Clear}
use Rattle.script.specs.declared.box_calls.BoxCall.TheVariants.{Unslip, Number, Save, Trade}
use Rattle.script.specs.declared.calls.Call.{Call}
use Rattle.script.specs.declared.calls.Call.TheVariants.{Set, Make, Read, Ask}
use Rattle.script.specs.declared.settings.CipherForm.TheVariants.{Cube, Words}
use Rattle.script.specs.declared.settings.Setting.{Setting}
use Rattle.script.specs.declared.settings.Setting.TheVariants.{Key, Form, Tray, Plate}
use Rattle.script.specs.declared.trade_calls.TradeCall.{TradeCall}
use Rattle.script.specs.declared.trade_calls.TradeCall.TheVariants.{Licence, Loan, Receipt}
use Rattle.script.specs.declared.trade_calls.TradeCall.TheVariants.{ReadLicence, ReadLoan}
use Rattle.script.specs.declared.trade_calls.TradeCall.TheVariants.{ReadReceipt}

abbrev pub SpellsSetting : (name rest : List ℕ) → Setting → Type 0
SpellsSetting name rest (Key file) = (name ≡ codes "key") × Only rest file.now
SpellsSetting name rest (Form Cube) = (name ≡ codes "form") × Only rest (codes "cube")
SpellsSetting name rest (Form Words) = (name ≡ codes "form") × Only rest (codes "words")
SpellsSetting name rest (Tray file) = (name ≡ codes "tray") × Only rest file.now
SpellsSetting name rest (Plate file places) =
    (name ≡ codes "plate")
    × (first_word rest ≡ file.now) × IsText file.now
    × OnlyNumeral 32 (after_word rest) places

-- a number, a design, and copies or a day
abbrev pub ThreeNumerals : (text : List ℕ) (number design last : ℕ) → Type 0
ThreeNumerals text number design last =
    let from_design : List ℕ = after_word text in
    Numeral 64 (first_word text) number
    × Numeral 32 (first_word from_design) design
    × OnlyNumeral 16 (after_word from_design) last

abbrev pub SpellsTradeCall : (name rest : List ℕ) → TradeCall → Type 0
SpellsTradeCall name rest (Licence number licence) =
    (name ≡ codes "licence") × ThreeNumerals rest number licence.design licence.copies
SpellsTradeCall name rest (Loan number loan) =
    (name ≡ codes "loan") × ThreeNumerals rest number loan.design loan.day
SpellsTradeCall name rest (Receipt number receipt) =
    (name ≡ codes "receipt")
    × Numeral 64 (first_word rest) number
    × OnlyNumeral 64 (after_word rest) receipt.cents
SpellsTradeCall name rest (ReadLicence digits) =
    (name ≡ codes "read-licence") × Only rest digits.now
SpellsTradeCall name rest (ReadLoan digits) = (name ≡ codes "read-loan") × Only rest digits.now
SpellsTradeCall name rest (ReadReceipt digits) =
    (name ≡ codes "read-receipt") × Only rest digits.now

abbrev pub SpellsBoxCall : (name rest : List ℕ) → BoxCall → Type 0
SpellsBoxCall name rest Draw = (name ≡ codes "draw") × (rest ≡ [])
SpellsBoxCall name rest (Seal number place label message) =
    let from_place : List ℕ = after_word rest in
    let from_label : List ℕ = after_word from_place in
    (name ≡ codes "seal")
    × Numeral 64 (first_word rest) number
    × Numeral 32 (first_word from_place) place
    × (first_word from_label ≡ label.now)
    × SpellsMessage (after_word from_label) message
SpellsBoxCall name rest (Slip number message) =
    (name ≡ codes "slip")
    × Numeral 64 (first_word rest) number
    × SpellsMessage (after_word rest) message
SpellsBoxCall name rest (Void number) = (name ≡ codes "void") × OnlyNumeral 64 rest number
SpellsBoxCall name rest (Clear place) = (name ≡ codes "clear") × OnlyNumeral 32 rest place
SpellsBoxCall name rest (Unslip digits) = (name ≡ codes "unslip") × Only rest digits.now
SpellsBoxCall name rest (Number place) = (name ≡ codes "number") × OnlyNumeral 32 rest place
SpellsBoxCall name rest (Save file) = (name ≡ codes "save") × Only rest file.now
SpellsBoxCall name rest (Trade call) = SpellsTradeCall name rest call

-- what stands after the name
abbrev pub SpellsAfter : (name rest : List ℕ) → Call → Type 0
SpellsAfter name rest (Set setting) = SpellsSetting name rest setting
SpellsAfter name rest (Make sign first) =
    (name ≡ codes "make")
    × (first_word rest ≡ sign.now) × IsText sign.now
    × OnlyNumeral 64 (after_word rest) first
SpellsAfter name rest (Read place) = (name ≡ codes "read") × OnlyNumeral 32 rest place
SpellsAfter name rest (Ask call) = SpellsBoxCall name rest call

-- the word that a line begins with
abbrev pub name_of : (line : List ℕ) → List ℕ
name_of line = first_word (without_blanks line)

-- a line that spells a call
abbrev pub LineSpells : (line : List ℕ) → Call → Type 0
LineSpells line call = SpellsAfter (name_of line) (after_word (without_blanks line)) call

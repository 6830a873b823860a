-- Lines that spell no call: the name tells which call a line could spell.
use Rattle.std.proofs.Common.{ℕ, List, codes, refl, arith, inl, inr}
use Rattle.script.specs.Names.{trade_names, OneOf}
use Rattle.script.specs.Words.{first_word, after_word, IsText, Only, Numeral, OnlyNumeral}
use Rattle.script.specs.Messages.{SpellsMessage}
use Rattle.script.specs.Spelling.{SpellsSetting, SpellsTradeCall, SpellsBoxCall, SpellsAfter}
use Rattle.script.specs.declared.box_calls.BoxCall.{BoxCall}
use Rattle.script.specs.declared.box_calls.BoxCall.TheVariants.{Draw, Seal, Slip, Void, Clear, Unslip, Number, Save, Trade}
use Rattle.script.specs.declared.calls.Call.{Call}
use Rattle.script.specs.declared.calls.Call.TheVariants.{Set, Make, Read, Ask}
use Rattle.script.specs.declared.messages.Message.{Message}
use Rattle.script.specs.declared.settings.CipherForm.TheVariants.{Cube, Words}
use Rattle.script.specs.declared.settings.Setting.{Setting}
use Rattle.script.specs.declared.settings.Setting.TheVariants.{Key, Form, Tray, Plate}
use Rattle.script.specs.declared.trade_calls.TradeCall.{TradeCall}
use Rattle.script.specs.declared.trade_calls.TradeCall.TheVariants.{Licence, Loan, Receipt, ReadLicence, ReadLoan, ReadReceipt}
use Rattle.script.proofs.Texts.{named_by}

pub no_key : (rest : List ℕ) → ((w : List ℕ) → ¬ (Only rest w)) → (call : Setting) → ¬ (SpellsSetting (codes "key") rest call)
no_key rest none (Key file) h = none file.now h.1
no_key rest none (Form Cube) h = grind arith
no_key rest none (Form Words) h = grind arith
no_key rest none (Tray file) h = grind arith
no_key rest none (Plate file places) h = grind arith

pub no_tray : (rest : List ℕ) → ((w : List ℕ) → ¬ (Only rest w)) → (call : Setting) → ¬ (SpellsSetting (codes "tray") rest call)
no_tray rest none (Key file) h = grind arith
no_tray rest none (Form Cube) h = grind arith
no_tray rest none (Form Words) h = grind arith
no_tray rest none (Tray file) h = none file.now h.1
no_tray rest none (Plate file places) h = grind arith

pub no_form : (rest : List ℕ) → ((w : List ℕ) → ¬ (Only rest w)) → (call : Setting) → ¬ (SpellsSetting (codes "form") rest call)
no_form rest none (Key file) h = grind arith
no_form rest none (Form Cube) h = none (codes "cube") h.1
no_form rest none (Form Words) h = none (codes "words") h.1
no_form rest none (Tray file) h = grind arith
no_form rest none (Plate file places) h = grind arith

-- a call on a slip of a kind has one of these names
not_trade : (name rest : List ℕ) → ¬ (OneOf trade_names name) → (call : TradeCall) → ¬ (SpellsTradeCall name rest call)
not_trade name rest other (Licence number licence) h = other (inl h.0)
not_trade name rest other (Loan number loan) h = other (inr (inl h.0))
not_trade name rest other (Receipt number receipt) h = other (inr (inr (inl h.0)))
not_trade name rest other (ReadLicence digits) h = other (inr (inr (inr (inl h.0))))
not_trade name rest other (ReadLoan digits) h = other (inr (inr (inr (inr (inl h.0)))))
not_trade name rest other (ReadReceipt digits) h = other (inr (inr (inr (inr (inr (inl h.0))))))

pub no_void : (rest : List ℕ) → ((n : ℕ) → ¬ (OnlyNumeral 64 rest n)) → (call : BoxCall) → ¬ (SpellsBoxCall (codes "void") rest call)
no_void rest none Draw h = grind arith
no_void rest none (Seal number place label message) h = grind arith
no_void rest none (Slip number message) h = grind arith
no_void rest none (Void number) h = none number h.1
no_void rest none (Clear place) h = grind arith
no_void rest none (Unslip digits) h = grind arith
no_void rest none (Number place) h = grind arith
no_void rest none (Save file) h = grind arith
no_void rest none (Trade call) h = not_trade (codes "void") rest (grind arith) call h

pub no_clear : (rest : List ℕ) → ((n : ℕ) → ¬ (OnlyNumeral 32 rest n)) → (call : BoxCall) → ¬ (SpellsBoxCall (codes "clear") rest call)
no_clear rest none Draw h = grind arith
no_clear rest none (Seal number place label message) h = grind arith
no_clear rest none (Slip number message) h = grind arith
no_clear rest none (Void number) h = grind arith
no_clear rest none (Clear place) h = none place h.1
no_clear rest none (Unslip digits) h = grind arith
no_clear rest none (Number place) h = grind arith
no_clear rest none (Save file) h = grind arith
no_clear rest none (Trade call) h = not_trade (codes "clear") rest (grind arith) call h

pub no_number : (rest : List ℕ) → ((n : ℕ) → ¬ (OnlyNumeral 32 rest n)) → (call : BoxCall) → ¬ (SpellsBoxCall (codes "number") rest call)
no_number rest none Draw h = grind arith
no_number rest none (Seal number place label message) h = grind arith
no_number rest none (Slip number message) h = grind arith
no_number rest none (Void number) h = grind arith
no_number rest none (Clear place) h = grind arith
no_number rest none (Unslip digits) h = grind arith
no_number rest none (Number place) h = none place h.1
no_number rest none (Save file) h = grind arith
no_number rest none (Trade call) h = not_trade (codes "number") rest (grind arith) call h

pub no_unslip : (rest : List ℕ) → ((w : List ℕ) → ¬ (Only rest w)) → (call : BoxCall) → ¬ (SpellsBoxCall (codes "unslip") rest call)
no_unslip rest none Draw h = grind arith
no_unslip rest none (Seal number place label message) h = grind arith
no_unslip rest none (Slip number message) h = grind arith
no_unslip rest none (Void number) h = grind arith
no_unslip rest none (Clear place) h = grind arith
no_unslip rest none (Unslip digits) h = none digits.now h.1
no_unslip rest none (Number place) h = grind arith
no_unslip rest none (Save file) h = grind arith
no_unslip rest none (Trade call) h = not_trade (codes "unslip") rest (grind arith) call h

pub no_save : (rest : List ℕ) → ((w : List ℕ) → ¬ (Only rest w)) → (call : BoxCall) → ¬ (SpellsBoxCall (codes "save") rest call)
no_save rest none Draw h = grind arith
no_save rest none (Seal number place label message) h = grind arith
no_save rest none (Slip number message) h = grind arith
no_save rest none (Void number) h = grind arith
no_save rest none (Clear place) h = grind arith
no_save rest none (Unslip digits) h = grind arith
no_save rest none (Number place) h = grind arith
no_save rest none (Save file) h = none file.now h.1
no_save rest none (Trade call) h = not_trade (codes "save") rest (grind arith) call h

-- what a seal is spelt by, after its number
pub sealed : (rest : List ℕ) (call : BoxCall) → SpellsBoxCall (codes "seal") rest call →
    ((place : ℕ) × Numeral 32 (first_word (after_word rest)) place) × ((message : Message) × SpellsMessage (after_word (after_word (after_word rest))) message)
sealed rest Draw h = absurd (grind arith)
sealed rest (Seal number place label message) h = ((place, h.2), (message, h.4))
sealed rest (Slip number message) h = absurd (grind arith)
sealed rest (Void number) h = absurd (grind arith)
sealed rest (Clear place) h = absurd (grind arith)
sealed rest (Unslip digits) h = absurd (grind arith)
sealed rest (Number place) h = absurd (grind arith)
sealed rest (Save file) h = absurd (grind arith)
sealed rest (Trade call) h = absurd (not_trade (codes "seal") rest (grind arith) call h)

-- what a making is spelt by, after its sign
pub made : (rest : List ℕ) (call : Call) → SpellsAfter (codes "make") rest call → (first : ℕ) × OnlyNumeral 64 (after_word rest) first
made rest (Make sign first) h = (first, h.3)
made rest (Read place) h = absurd (grind arith)
made rest (Set (Key file)) h = absurd (grind arith)
made rest (Set (Form Cube)) h = absurd (grind arith)
made rest (Set (Form Words)) h = absurd (grind arith)
made rest (Set (Tray file)) h = absurd (grind arith)
made rest (Set (Plate file places)) h = absurd (grind arith)
made rest (Ask Draw) h = absurd (grind arith)
made rest (Ask (Seal number place label message)) h = absurd (grind arith)
made rest (Ask (Slip number message)) h = absurd (grind arith)
made rest (Ask (Void number)) h = absurd (grind arith)
made rest (Ask (Clear place)) h = absurd (grind arith)
made rest (Ask (Unslip digits)) h = absurd (grind arith)
made rest (Ask (Number place)) h = absurd (grind arith)
made rest (Ask (Save file)) h = absurd (grind arith)
made rest (Ask (Trade call)) h = absurd (not_trade (codes "make") rest (grind arith) call h)

-- the name of a call is text
pub name_is_text : (name rest : List ℕ) (call : Call) → SpellsAfter name rest call → IsText name
name_is_text name rest (Make sign first) h = named_by (codes "make") refl name h.0
name_is_text name rest (Read place) h = named_by (codes "read") refl name h.0
name_is_text name rest (Set (Key file)) h = named_by (codes "key") refl name h.0
name_is_text name rest (Set (Form Cube)) h = named_by (codes "form") refl name h.0
name_is_text name rest (Set (Form Words)) h = named_by (codes "form") refl name h.0
name_is_text name rest (Set (Tray file)) h = named_by (codes "tray") refl name h.0
name_is_text name rest (Set (Plate file places)) h = named_by (codes "plate") refl name h.0
name_is_text name rest (Ask Draw) h = named_by (codes "draw") refl name h.0
name_is_text name rest (Ask (Seal number place label message)) h = named_by (codes "seal") refl name h.0
name_is_text name rest (Ask (Slip number message)) h = named_by (codes "slip") refl name h.0
name_is_text name rest (Ask (Void number)) h = named_by (codes "void") refl name h.0
name_is_text name rest (Ask (Clear place)) h = named_by (codes "clear") refl name h.0
name_is_text name rest (Ask (Unslip digits)) h = named_by (codes "unslip") refl name h.0
name_is_text name rest (Ask (Number place)) h = named_by (codes "number") refl name h.0
name_is_text name rest (Ask (Save file)) h = named_by (codes "save") refl name h.0
name_is_text name rest (Ask (Trade (Licence number licence))) h = named_by (codes "licence") refl name h.0
name_is_text name rest (Ask (Trade (Loan number loan))) h = named_by (codes "loan") refl name h.0
name_is_text name rest (Ask (Trade (Receipt number receipt))) h = named_by (codes "receipt") refl name h.0
name_is_text name rest (Ask (Trade (ReadLicence digits))) h = named_by (codes "read-licence") refl name h.0
name_is_text name rest (Ask (Trade (ReadLoan digits))) h = named_by (codes "read-loan") refl name h.0
name_is_text name rest (Ask (Trade (ReadReceipt digits))) h = named_by (codes "read-receipt") refl name h.0

-- A record that is opened, by what the opening of its parts answered.
use Rattle.std.proofs.Common.{◌≡◌, ℕ, List, [], ◌∷◌, length, Ok, Err, Result, sym, ap, ◌∙◌, arith}
use mathlib.Core.Path.{transport}
use Rattle.std.proofs.lemmas.List.{length-take, length-drop, length-append}
use Rattle.faults.specs.Causes.{mode_fault, from_mode, left}
use Rattle.faults.specs.Tables.{Table, By, Not, Clear}
use Rattle.faults.specs.declared.ModeCause.TheVariants.{Tag}
use Rattle.faults.specs.declared.ModeFault.{ModeFault}
use Rattle.faults.specs.declared.BoxFault.{BoxFault}
use Rattle.faults.proofs.Results.{never_both, same_error}
use Rattle.faults.proofs.Tables.{by_follows}
use Rattle.octets.specs.Octets.{big_endian}
use Rattle.octets.proofs.Numbers.{length-big_endian}
use Rattle.cipher.specs.Meaning.{BlockFunction}
use Rattle.modes.specs.Cascade.{CascadeOpens}
use Rattle.modes.proofs.Streams.{length-ctr}
use Rattle.records.specs.Records.{empty, nonce_in, head_in, length_in, text_in, tag_in, WellFormed}
use Rattle.records.specs.Sheets.{associated, right_tag, message_in}
use Rattle.sealing.specs.Sealing.{form_table, open_sheet_table}

-- where no row applies, a table has the outcome of being done
pub by_clear : {Fault : Type 0} (refused : Fault → Type 0) (done : Type 0) (rows : Table Fault) → Clear rows → done → By rows refused done
by_clear refused done [] c d = d
by_clear refused done (row ∷ rows) c d = (λ h. absurd (c.0 h), λ n. by_clear refused done rows c.1 d)

-- a record that is refused by its form is refused
pub form_refused : (f : BlockFunction) (key : List ℕ) (place : ℕ) (bytes : List ℕ) (fault : BoxFault) → By (form_table bytes) (λ row. fault ≡ row) ⊥ → By (open_sheet_table f key place bytes) (λ row. fault ≡ row) ⊥
form_refused f key place bytes fault b = (b.0, λ h. ((b.1 h).0, λ k. absurd ((b.1 h).1 k)))

-- a refusal by a check, as the call's own
pub refused_by : (A : Type 0) {Fault : Type 0} (rows : Table Fault) (fault : Fault) (done : Type 0) (bytes' bytes'' : List ℕ) → bytes' ≡ bytes'' → By rows (λ row. fault ≡ row) ⊥
    → By rows (λ row. (◌≡◌ {A = Result A Fault} (Err fault) (Err row)) × (bytes' ≡ bytes'')) done
refused_by A {Fault} rows fault done bytes' bytes'' e b =
    by_follows {refused = λ row. fault ≡ row} {refused' = λ row. (◌≡◌ {A = Result A Fault} (Err fault) (Err row)) × (bytes' ≡ bytes'')} rows (λ row r. (ap Err r, e)) (λ d. absurd d) b

pub text_long : (bytes : List ℕ) → length bytes ≡ 1024 → WellFormed bytes → length (text_in bytes) ≡ length_in bytes
text_long bytes long formed = simp (length-take, length-drop) (omega (arith, formed.0))

module _ (f : BlockFunction) (key : List ℕ) (place : ℕ) (bytes : List ℕ) (kl : length key ≡ 32) (long : length bytes ≡ 1024) (there : Not (bytes ≡ empty)) (formed : WellFormed bytes)
    (nonce data' text sign out out' : List ℕ) (answer : Result (Unit {0}) ModeFault)
    (n : nonce ≡ nonce_in bytes) (d : data' ≡ associated place (head_in bytes)) (t : text ≡ text_in bytes) (s : sign ≡ tag_in bytes) (ol : length out ≡ length text)
    (opens : CascadeOpens f key nonce data' text sign out answer out') where
  wrong : Type 0
  wrong = Not (tag_in bytes ≡ right_tag f key place bytes)

  same : CascadeOpens f key (nonce_in bytes) (associated place (head_in bytes)) (text_in bytes) (tag_in bytes) out answer out'
  same = transport (λ i. CascadeOpens f key (n i) (d i) (t i) (s i) out answer out') opens

  data_long : length (associated place (head_in bytes)) ≡ 52
  data_long = length-append (big_endian 4 place) (head_in bytes) ∙ simp (length-take, length-drop) (omega (arith, length-big_endian 4 place))

  rest : (wrong → (answer ≡ Err (mode_fault Tag)) × (out' ≡ left (from_mode (mode_fault Tag)) out))
      × (Not wrong → (answer ≡ Ok tt) × (out' ≡ message_in f key bytes))
  unfolding wrong
  rest = (same.1 (λ k. k (kl, ol ∙ ap length t, simp length-drop (omega arith)))).1 (λ k. k (simp length-take (omega arith), omega (arith, data_long), omega (arith, text_long bytes long formed, formed.0)))

  pub open_refused : (fault : ModeFault) → answer ≡ Err fault → By (open_sheet_table f key place bytes) (λ row. from_mode fault ≡ row) ⊥
  unfolding wrong
  open_refused fault a = (
    λ h. absurd (there h),
    λ h. (
      λ k. absurd (k formed),
      λ k. (
        λ differs. ap from_mode (same_error fault (mode_fault Tag) (sym a ∙ (rest.0 differs).0)),
        λ right. absurd (never_both tt fault (sym (rest.1 right).0 ∙ a)),
      ),
    ),
  )

  pub open_done : answer ≡ Ok tt → Clear (open_sheet_table f key place bytes) × (length out' ≡ length_in bytes) × (out' ≡ message_in f key bytes)
  unfolding wrong
  open_done a =
      let right : Not wrong = λ differs. absurd (never_both tt (mode_fault Tag) (sym a ∙ (rest.0 differs).0)) in
      let e : out' ≡ message_in f key bytes = (rest.1 right).1 in
      ((there, ((λ k. k formed), (right, tt))), ap length e ∙ length-ctr f key (nonce_in bytes) (text_in bytes) ∙ text_long bytes long formed, e)

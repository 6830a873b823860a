use Rattle.std.proofs.Common.{◌≡◌, ℕ, List, None, Ok, Err, Result, sym, refl, ap, arith}
use Rattle.std.proofs.lemmas.Option.{none-some}
use Rattle.faults.specs.Causes.{entry, from_shelf, shelf_fault}
use Rattle.faults.specs.Tables.{Not, Clear, Checks}
use Rattle.faults.specs.declared.ShelfCause.TheVariants.{Unfit}
use Rattle.faults.specs.declared.ShelfFault.{ShelfFault}
use Rattle.saturnin.specs.Bits.{bit, nibble}
use Rattle.octets.specs.Lists.{table}
use Rattle.octets.specs.Octets.{big_endian}
use Rattle.saturnin.specs.Cube.{register, word}
use Rattle.saturnin.specs.Layers.{σ₀, σ₁, SR_slice, SR_sheet, SR, α, ⊕, M_row}
use Rattle.saturnin.specs.Rounds.{clock, rotated}
use Rattle.settled.proofs.Counters.{counter_16, counter_20}
use Rattle.settled.proofs.Marks.{plate_cell_0, plate_cell_1, plate_open, no_fit}
use Rattle.plate.specs.Plates.{Fit, fit_table}
use Rattle.box_model.proofs.Turns.{draw_turn}
use Rattle.settled.proofs.settled_cases.Goals as goal

-- the check of an unfit plate
unfit : (memory : List ℕ) (places : ℕ) → Not (Fit memory places)
    → (answer : Result (Unit {0}) ShelfFault)
    → Checks (fit_table memory places) (λ x. Clear (fit_table memory places)) answer
    → (fault : ShelfFault) × (answer ≡ Err fault) × (fault ≡ shelf_fault None Unfit)
unfit memory places gone (Ok x) b = absurd (b.0 gone)
unfit memory places gone (Err fault) b = (fault, refl, b.0 gone)

pub returns : goal.returns
unfolding big_endian bit nibble table register word σ₀ σ₁ SR_slice SR_sheet SR α ⊕ M_row clock rotated
returns c = record {
  start_10_1 = refl;
  start_16_7 = refl;
  clock_RC₀ = refl;
  clock_RC₁ = refl;
  box_σ₀ = refl;
  box_σ₁ = refl;
  alpha = refl;
  matrix = refl;
  shift_1 = refl;
  shift_3 = refl;
  key = refl;
  word_0 = refl;
  counter_16 = counter_16;
  counter_20 = counter_20;
  plate_cell_0 = plate_cell_0;
  plate_cell_1 = plate_cell_1;
  plate_open = plate_open;
  plate_gap = λ memory places answer marks b.
      let h = unfit memory places (no_fit memory places marks) answer b in
      (h.0, h.1, ap (λ f. (entry (from_shelf f).cause).number) h.2);
  sheet_928 = λ made s t number place label buffer buffer' message answer c b. (
    λ e. (((((b.1 c.0).1 (λ l. omega (arith, l, e))).1 c.1.1.0).1 c.1.1.1.0).1 c.1.1.1.1.0).0,
    λ e. (_, ((b.1 c.0).0 (omega (arith, e))).0, refl),
  );
  slip_15 = λ made s t number buffer buffer' message answer c b. (
    λ e. ((((b.1 c.0).1 (λ l. omega (arith, l, e))).1 (λ n. none-some message (sym n))).1 c.1.1.1.0).2,
    λ e. (_, ((b.1 c.0).0 (omega (arith, e))).0, refl),
  );
  nonce_20 = λ f key associated message out sign out' sign' nonce answer c b. (
    λ e. ((b.1 c.0).1 (λ n. c.1.0 (λ h. n (omega (arith, e), h.1, h.2)))).0,
    λ e. (_, ((b.1 c.0).0 (λ h. omega (arith, h.0, e))).0, refl),
  );
  last_licence = refl;
  last_loan = refl;
  last_receipt = refl;
  designs = refl;
  designs_lent = refl;
  copies = refl;
  days = refl;
  cents = refl;
  used_up = λ made s t u answer first then.
      let begins = (draw_turn made s t _ first).0 in
      (_, (then.0 (omega (arith, begins.next, begins.is_next))).0, refl);
}

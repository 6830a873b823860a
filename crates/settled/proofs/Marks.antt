-- Plates by their marks.
use Rattle.std.proofs.Common.{◌≡◌, ℕ, zero, suc, ◌<◌, ◌≤◌, true, ltb, List, [], ◌∷◌, length, get_or}
use Rattle.std.proofs.Common.{Some, ap, ◌∙◌, arith, lit≤}
use Rattle.std.proofs.lemmas.Bool.{lt-ltb}
use Rattle.faults.specs.Tables.{Not}
use Rattle.octets.specs.Lists.{table}
use Rattle.shelf.specs.Meaning.{Open}
use Rattle.plate.specs.Plates.{cells, mark, Fit, used, last_cell, plate}
use Rattle.plate.proofs.Marks.{last-here, last-before, used_more, used_less}
use Rattle.settled.specs.Settled.{Marks}

-- mark j of marks that are written out
mark-at : (memory marks : List ℕ) → Marks memory marks → (j : ℕ)
    → get_or (table (length marks) (mark memory)) j 0 ≡ get_or marks j 0
mark-at memory marks h j = ap (λ t. get_or t j 0) h.1

module _ (memory : List ℕ) (h : Marks memory (1 ∷ 2 ∷ 1 ∷ 0 ∷ [])) where
  m0 : mark memory 0 ≡ 1
  unfolding table
  m0 = mark-at memory _ h 0

  m1 : mark memory 1 ≡ 2
  unfolding table
  m1 = mark-at memory _ h 1

  m2 : mark memory 2 ≡ 1
  unfolding table
  m2 = mark-at memory _ h 2

  m3 : mark memory 3 ≡ 0
  unfolding table
  m3 = mark-at memory _ h 3

  pub plate_cell_0 : last_cell memory 0 (cells memory) ≡ Some 2
  plate_cell_0 =
      ap (last_cell memory 0) h.0
      ∙ last-before memory 0 3 (λ e. omega (arith, m3, e))
      ∙ last-here memory 0 2 m2

  pub plate_cell_1 : last_cell memory 1 (cells memory) ≡ Some 1
  plate_cell_1 =
      ap (last_cell memory 1) h.0
      ∙ last-before memory 1 3 (λ e. omega (arith, m3, e))
      ∙ last-before memory 1 2 (λ e. omega (arith, m2, e))
      ∙ last-here memory 1 1 m1

  three : used memory (cells memory) ≡ 3
  three =
      ap (used memory) h.0
      ∙ omega (
        arith,
        used_less memory 3 m3,
        used_more memory 2 (λ e. omega (arith, m2, e)),
        used_more memory 1 (λ e. omega (arith, m1, e)),
        used_more memory 0 (λ e. omega (arith, m0, e)),
      )

  no_mark_above : (j : ℕ) → j < cells memory → mark memory j ≤ 2
  no_mark_above zero l = omega (arith, m0)
  no_mark_above (suc zero) l = omega (arith, m1)
  no_mark_above (suc (suc zero)) l = omega (arith, m2)
  no_mark_above (suc (suc (suc zero))) l = omega (arith, m3)
  no_mark_above (suc (suc (suc (suc j)))) l = absurd (omega (arith, h.0))

  no_gap : (i j : ℕ) → i < j → j < cells memory → mark memory i ≡ 0 → mark memory j ≡ 0
  no_gap zero j k l e = absurd (omega (arith, m0, e))
  no_gap (suc zero) j k l e = absurd (omega (arith, m1, e))
  no_gap (suc (suc zero)) j k l e = absurd (omega (arith, m2, e))
  no_gap (suc (suc (suc i))) j k l e = absurd (omega (arith, h.0))

  pub plate_open : Fit memory 2 × Open (plate memory 2) 0 × Open (plate memory 2) 1
  plate_open =
      let more : ltb (used memory (cells memory)) (cells memory) ≡ true =
      lt-ltb (used memory (cells memory)) (cells memory) (omega (arith, three, h.0)) in
      (record { some = lit≤ tt; few = lit≤ tt; marks = no_mark_above; order = no_gap }, more, more)

module _ (memory : List ℕ) (places : ℕ) (h : Marks memory (1 ∷ 0 ∷ 2 ∷ [])) where
  pub no_fit : Not (Fit memory places)
  unfolding table
  no_fit fit =
      let unused = fit.order 1 2 (omega arith) (omega (arith, h.0)) (mark-at memory _ h 1) in
      omega (arith, unused, mark-at memory _ h 2)

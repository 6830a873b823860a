-- Cases that are settled: what the definitions must give.
use Rattle.std.specs.Prelude.{◌≡◌, ℕ, suc, List, [], ◌∷◌, ◌++◌, map, cond, eqb, length, Some}
use Rattle.std.specs.Prelude.{None, Ok, Err, Result}
use Rattle.faults.specs.Causes.{entry, from_mode, from_shelf}
use Rattle.faults.specs.Tables.{Table, Clear, Checks}
use Rattle.faults.specs.declared.ShelfFault.{ShelfFault}
use Rattle.faults.specs.declared.BoxFault.{BoxFault}
use Rattle.octets.specs.Lists.{at, table}
use Rattle.octets.specs.Octets.{zeros}
use Rattle.cipher.specs.Meaning.{BlockFunction}
use Rattle.saturnin.specs.Cube.{Cube, cube, word}
use Rattle.saturnin.specs.Layers.{σ₀, σ₁, SR, α, M_row}
use Rattle.saturnin.specs.Rounds.{start, clock, rotated}
use Rattle.modes.specs.Cascade.{cascade_table, CascadeSeals}
use Rattle.modes.specs.Counters.{counter_block}
use Rattle.shelf.specs.Meaning.{Open}
use Rattle.plate.specs.Plates.{cells, mark, Fit, fit_table, last_cell, plate}
use Rattle.trade_slips.specs.Trade.{licence, loan, receipt}
use Rattle.box_model.specs.States.{Made, State}
use Rattle.box_model.specs.Calls.{Draws, seal_table, Seals, slip_table, Slips}

-- the cube whose nibbles are numbered: what stands at i is where nibble i came from
abbrev pub numbered : Cube
numbered = cube (λ i. i)

-- byte 0 is 1, byte 16 is 2, and the others are 0
abbrev pub two_bytes : List ℕ
two_bytes = table 32 (λ m. cond (eqb m 0) 1 (cond (eqb m 16) 2 0))

-- the marks of a memory's cells, first to last
abbrev pub Marks : (memory : List ℕ) (marks : List ℕ) → Type 0
Marks memory marks = (cells memory ≡ length marks) × (table (length marks) (mark memory) ≡ marks)

-- a refusal with this number, by the fault as the box hands it up
abbrev pub RefusedWith : {A F : Type 0} → (handed_up : F → BoxFault) → (number : ℕ)
    → Result A F → Type 0
RefusedWith {A} {F} handed_up number answer =
    (fault : F) × (answer ≡ Err fault) × ((entry (handed_up fault).cause).number ≡ number)

-- a call takes at most so many bytes, by its table and its answer: where no bytes are taken, that
-- many are, and one more gets 2
abbrev pub TakesAtMost : {F : Type 0} → (handed_up : F → BoxFault) → (most : ℕ)
    → (rows : List ℕ → Table F) → (Calls : List ℕ → Result (Unit {0}) F → Type 0) → Type 0
TakesAtMost {F} handed_up most rows Calls =
    (bytes : List ℕ) (answer : Result (Unit {0}) F) → Clear (rows []) → Calls bytes answer
    → (length bytes ≡ most → answer ≡ Ok tt)
    × (length bytes ≡ suc most → RefusedWith handed_up 2 answer)

pub record Settled : Type 0 where
  -- the constants with 10 super-rounds and separator 1, with 16 and 7, and one clock of the first
  pub start_10_1 : start 1 10 ≡ 0xFEA1
  pub start_16_7 : start 7 16 ≡ 0xFF07
  pub clock_RC₀ : clock 0x1002D 0xFEA1 ≡ 0xFD6F
  pub clock_RC₁ : clock 0x10053 0xFEA1 ≡ 0xFD11
  pub box_σ₀ : σ₀ 1 ≡ 6
  pub box_σ₁ : σ₁ 1 ≡ 9
  pub alpha : map α (1 ∷ 2 ∷ 4 ∷ 8 ∷ []) ≡ 8 ∷ 9 ∷ 2 ∷ 4 ∷ []
  -- M takes the column (1, 0, 0, 0) to (4, 1, 1, 5)
  pub matrix : map (λ y. M_row y 1 0 0 0) (0 ∷ 1 ∷ 2 ∷ 3 ∷ []) ≡ 4 ∷ 1 ∷ 1 ∷ 5 ∷ []
  -- the shift of round 1 moves nibble 13 to 1, and that of round 3 moves nibble 35 to 19
  pub shift_1 : at (SR 1 numbered) 1 ≡ 13
  pub shift_3 : at (SR 3 numbered) 19 ≡ 35
  -- nibble 50 of the rotated key is key nibble 6
  pub key : at (rotated numbered) 50 ≡ 6
  pub word_0 : word two_bytes 0 ≡ 0x00020001
  -- counter 1 with a nonce of 16 bytes, and with one of 20
  pub counter_16 : (nonce : List ℕ) → length nonce ≡ 16
      → counter_block nonce 1 ≡ nonce ++ (0x80 ∷ (zeros 14 ++ (0x01 ∷ [])))
  pub counter_20 : (nonce : List ℕ) → length nonce ≡ 20
      → counter_block nonce 1 ≡ nonce ++ (0x80 ∷ (zeros 10 ++ (0x01 ∷ [])))
  -- a plate of 2 places with marks 1, 2, 1, 0: place 0 has cell 2, place 1 has cell 1, and both
  -- are open
  pub plate_cell_0 : (memory : List ℕ) → Marks memory (1 ∷ 2 ∷ 1 ∷ 0 ∷ [])
      → last_cell memory 0 (cells memory) ≡ Some 2
  pub plate_cell_1 : (memory : List ℕ) → Marks memory (1 ∷ 2 ∷ 1 ∷ 0 ∷ [])
      → last_cell memory 1 (cells memory) ≡ Some 1
  pub plate_open : (memory : List ℕ) → Marks memory (1 ∷ 2 ∷ 1 ∷ 0 ∷ [])
      → Fit memory 2 × Open (plate memory 2) 0 × Open (plate memory 2) 1
  -- the check of a plate with marks 1, 0, 2 gets 13
  pub plate_gap : (memory : List ℕ) (places : ℕ) (answer : Result (Unit {0}) ShelfFault)
      → Marks memory (1 ∷ 0 ∷ 2 ∷ [])
      → Checks (fit_table memory places) (λ x. Clear (fit_table memory places)) answer
      → RefusedWith from_shelf 13 answer
  -- a message of 928 bytes is taken by a seal of the box and one of 929 gets 2, one of 15 by a slip
  -- and one of 16 gets 2, and a nonce of 20 by CTR-Cascade and one of 21 gets 2
  pub sheet_928 : (made : Made) (s t : State) (number place : ℕ) (label buffer buffer' : List ℕ)
      → TakesAtMost (λ fault. fault) 928
      (λ message. seal_table made s number place label message buffer)
      (λ message answer. Seals made s number place label message buffer answer buffer' t)
  pub slip_15 : (made : Made) (s t : State) (number : ℕ) (buffer buffer' : List ℕ)
      → TakesAtMost (λ fault. fault) 15
      (λ message. slip_table made s number (Some message) buffer)
      (λ message answer. Slips made s number (Some message) buffer answer buffer' t)
  pub nonce_20 : (f : BlockFunction) (key associated message out sign out' sign' : List ℕ)
      → TakesAtMost from_mode 20
      (λ nonce. cascade_table (length key) (length nonce) (length associated) (length message)
      (length out) (length sign))
      (λ nonce answer. CascadeSeals f key nonce associated message out sign answer out' sign')
  -- the message of the last licence, loan and receipt that is taken
  pub last_licence : licence (record { design = 99999999; copies = 999 })
      ≡ Some (1 ∷ 5 ∷ 245 ∷ 224 ∷ 255 ∷ 3 ∷ 231 ∷ [])
  pub last_loan : loan (record { design = 1; day = 36600 })
      ≡ Some (2 ∷ 0 ∷ 0 ∷ 0 ∷ 1 ∷ 142 ∷ 248 ∷ [])
  pub last_receipt : receipt (record { cents = 1000000000000 })
      ≡ Some (3 ∷ 0 ∷ 0 ∷ 0 ∷ 232 ∷ 212 ∷ 165 ∷ 16 ∷ 0 ∷ [])
  -- a number just below its least, or just above its greatest, has none
  pub designs : map (λ n. licence (record { design = n; copies = 1 })) (0 ∷ 100000000 ∷ [])
      ≡ None ∷ None ∷ []
  pub designs_lent : map (λ n. loan (record { design = n; day = 1 })) (0 ∷ 100000000 ∷ [])
      ≡ None ∷ None ∷ []
  pub copies : map (λ n. licence (record { design = 1; copies = n })) (0 ∷ 1000 ∷ [])
      ≡ None ∷ None ∷ []
  pub days : map (λ n. loan (record { design = 1; day = n })) (0 ∷ 36601 ∷ [])
      ≡ None ∷ None ∷ []
  pub cents : receipt (record { cents = 1000000000001 }) ≡ None
  -- after 999,999,999 a draw gets 7
  pub used_up : (made : Made) (s t u : State) (answer : Result ℕ BoxFault)
      → Draws made s (Ok 999999999) t → Draws made t answer u
      → RefusedWith (λ fault. fault) 7 answer

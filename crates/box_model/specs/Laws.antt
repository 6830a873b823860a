-- What every log of a box keeps, in the words of the log alone.
use Rattle.std.specs.Prelude.{◌≡◌, ℕ, ◌+◌, ◌≤◌, cond, List, [], ◌∷◌, ◌++◌, length, Some, None, Ok}
use Rattle.std.specs.Prelude.{Err, Option, Result, ◌==◌}
use Rattle.faults.specs.Causes.{box_fault}
use Rattle.faults.specs.declared.BoxCause.TheVariants.{Empty}
use Rattle.faults.specs.declared.BoxFault.{BoxFault}
use Rattle.octets.specs.Octets.{zeros, part}
use Rattle.modes.specs.Short.{filled}
use Rattle.records.specs.Records.{label_in}
use Rattle.numbers.specs.Counting.{count}
use Rattle.box_model.specs.States.{Made, Fair, State}
use Rattle.box_model.specs.Logs.{Line, Handed, Does, Log, slips, read, unslip}
use Rattle.box_model.specs.Effects.{Left, a_sheet, nothing, all_effects, drawn, ended, latest}

-- the numbers of a list that another does not name, in order
abbrev pub apart : (named : List ℕ) → List ℕ → List ℕ
apart named [] = []
apart named (n ∷ ns) = cond (count n named == 0) (n ∷ apart named ns) (apart named ns)

-- what a read of the place p into a buffer of 1,024 bytes must give, by what the latest seal or
-- clear left there
abbrev pub Gives : (p : ℕ) → Option Left → Result (ℕ × ℕ) BoxFault → (buffer' : List ℕ) → Type 0
Gives p None answer buffer' = Unit {0}
Gives p (Some (a_sheet number label message)) answer buffer' =
    (answer ≡ Ok (number, length message))
    × (label_in buffer' ≡ label)
    × (part 64 (length message) buffer' ≡ message)
Gives p (Some nothing) answer buffer' =
    (answer ≡ Err (box_fault (Some p) Empty)) × (buffer' ≡ zeros 1024)

-- every log of a box that starts in s, with no number out
pub record Kept (made : Made) (s : State) : Type 0 where
  -- each line is refused exactly where its table refuses, and is otherwise done as defined, where
  -- the next number and the numbers out are what the lines before it make them: the first plus the
  -- count of those drawn, and those drawn without those ended. This is about the code since each
  -- call's contract is the very definition that its line satisfies
  pub answered : (lines : List Line) (l : Line) (u : State) → Log made s (lines ++ (l ∷ [])) u
      → (t : State) × Log made s lines t × Handed l × Does made t l u
      × (t.next ≡ s.next + length (drawn lines))
      × (t.out ≡ apart (ended lines) (drawn lines))
  -- no number is drawn twice
  pub drawn_once : (lines : List Line) (t : State) → Log made s lines t
      → (n : ℕ) → count n (drawn lines) ≤ 1
  -- the done seals, slips and voids and the numbers out name each drawn number exactly once, and no
  -- other
  pub accounted : (lines : List Line) (t : State) → Log made s lines t
      → (n : ℕ) → count n (ended lines ++ t.out) ≡ count n (drawn lines)
  -- no number is used twice: the done seals, slips and voids name each at most once
  pub used_once : (lines : List Line) (t : State) → Log made s lines t
      → (n : ℕ) → count n (ended lines) ≤ 1
  -- at most sixteen numbers are out
  pub sixteen : (lines : List Line) (t : State) → Log made s lines t → length t.out ≤ 16
  -- once a place has a done seal or clear, a read gives the latest seal's sheet, or that it is
  -- empty after a clear
  pub reads : (lines : List Line) (t : State) (p : ℕ) (buffer buffer' : List ℕ)
      (answer : Result (ℕ × ℕ) BoxFault)
      → Log made s (lines ++ (read p buffer answer buffer' ∷ [])) t
      → length buffer ≡ 1024 → Gives p (latest p (all_effects lines)) answer buffer'
  -- the bytes of a done slip, handed to any later unslip, give its message
  pub unslips : (before between : List Line) (t : State) (n : ℕ)
      (message buffer bytes room room' : List ℕ) (answer : Result ℕ BoxFault)
      → Log made s (before ++ (slips n (Some message) buffer (Ok tt) bytes
      ∷ (between ++ (unslip bytes room answer room' ∷ [])))) t
      → length room ≡ 15 → (answer ≡ Ok (length message)) × (room' ≡ filled message)

-- so it is of every box that is made fairly, from any state with none out and a next number from 1
-- on
abbrev pub AlwaysKept : Type 0
AlwaysKept = (made : Made) → Fair made → (s : State) → 1 ≤ s.next → s.out ≡ [] → Kept made s

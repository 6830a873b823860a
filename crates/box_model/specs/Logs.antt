-- Logs: lines, each one call on the box as the line before left it.
use Rattle.std.specs.Prelude.{◌≡◌, ℕ, List, [], ◌∷◌, ◌++◌, Result, Some, None}
use Rattle.faults.specs.declared.BoxFault.{BoxFault}
use Rattle.octets.specs.Octets.{Octets}
use Rattle.box_model.specs.States.{Made, State}
use Rattle.box_model.specs.Calls.{Done, Message, Draws, Seals, Slips, Voids, Clears, Reads}
use Rattle.box_model.specs.Calls.{Unslips}

-- one call: what was handed in, the answer, and the buffer that came back
pub data Line : Type 0 where
  draw : (answer : Result ℕ BoxFault) → Line
  seal : (number place : ℕ) (label message buffer : List ℕ)
      (answer : Done) (buffer' : List ℕ) → Line
  slips : (number : ℕ) (message : Message) (buffer : List ℕ)
      (answer : Done) (buffer' : List ℕ) → Line
  void : (number : ℕ) (answer : Done) → Line
  clear : (place : ℕ) (answer : Done) → Line
  read : (place : ℕ) (buffer : List ℕ) (answer : Result (ℕ × ℕ) BoxFault) (buffer' : List ℕ) → Line
  unslip : (bytes buffer : List ℕ) (answer : Result ℕ BoxFault) (buffer' : List ℕ) → Line

-- a line turns the box from s to t: the very definition of its call
abbrev pub Does : Made → (s : State) → Line → (t : State) → Type 0
Does made s (draw a) t = Draws made s a t
Does made s (seal n p l m b a b') t = Seals made s n p l m b a b' t
Does made s (slips n m b a b') t = Slips made s n m b a b' t
Does made s (void n a) t = Voids made s n a t
Does made s (clear p a) t = Clears made s p a t
Does made s (read p b a b') t = (t ≡ s) × Reads made s p b a b'
Does made s (unslip x b a b') t = (t ≡ s) × Unslips made s x b a b'

-- bytes handed in are bytes
abbrev pub HandedMessage : Message → Type 0
HandedMessage None = Unit {0}
HandedMessage (Some bytes) = Octets bytes

abbrev pub Handed : Line → Type 0
Handed (draw a) = Unit {0}
Handed (seal n p l m b a b') = Octets l × Octets m
Handed (slips n m b a b') = HandedMessage m
Handed (void n a) = Unit {0}
Handed (clear p a) = Unit {0}
Handed (read p b a b') = Unit {0}
Handed (unslip x b a b') = Unit {0}

-- a log of a box: its lines, oldest first, from the state s to the state t
pub data Log (made : Made) (s : State) : List Line → State → Type 0 where
  nothing_yet : Log made s [] s
  and_then : {lines : List Line} {t u : State} (l : Line)
      → Log made s lines t → Handed l → Does made t l u → Log made s (lines ++ (l ∷ [])) u

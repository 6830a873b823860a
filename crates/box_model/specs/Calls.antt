-- The calls of a box: the table of each, its answer, what its buffers hold after it, and what it
-- makes of the box.
use Rattle.std.specs.Prelude.{◌≡◌, ℕ, ◌+◌, ◌<◌, ◌≤◌, List, [], ◌∷◌, ◌++◌, length, take, drop, Some}
use Rattle.std.specs.Prelude.{None, Ok, Err, Option, Result}
use Rattle.faults.specs.Causes.{box_fault, left}
use Rattle.faults.specs.Tables.{Table, By, Not}
use Rattle.faults.specs.declared.ModeCause.TheVariants.{Tag, Padding}
use Rattle.faults.specs.declared.ShelfCause.TheVariants.{Outside, Shut}
use Rattle.faults.specs.declared.BoxCause.TheVariants.{Mode, Shelf, Length, Limit, NotOut, UsedUp}
use Rattle.faults.specs.declared.BoxCause.TheVariants.{SixteenOut, Empty, Filling, Content}
use Rattle.faults.specs.declared.BoxCause.TheVariants.{OtherKind}
use Rattle.faults.specs.declared.BoxFault.{BoxFault}
use Rattle.modes.specs.Short.{BlockHolds, filled}
use Rattle.shelf.specs.Meaning.{Open, Placed}
use Rattle.records.specs.Records.{empty, number_in, length_in, tag_in, WellFormed}
use Rattle.records.specs.Sheets.{sheet, slip, right_tag, opened}
use Rattle.numbers.specs.Counting.{count, without}
use Rattle.box_model.specs.States.{Made, State, last_number}

-- the answer of a call that gives nothing but that it is done
abbrev pub Done : Type 0
Done = Result (Unit {0}) BoxFault

-- what was handed to a slip: a message; or, to the maker of a kind, a content, by the message that
-- the kind writes of it, which a content outside its range has not
abbrev pub Message : Type 0
Message = Option (List ℕ)

abbrev pub TooLong : Message → Type 0
TooLong None = ⊥
TooLong (Some bytes) = 15 < length bytes

-- the message of a slip: its block, turned back, is its nonce and this message
abbrev pub InSlip : Made → (bytes message : List ℕ) → Type 0
InSlip made bytes message = BlockHolds made.back made.key (take 16 bytes) (drop 16 bytes) message

-- calls on a place name it in every fault, the others name none
module _ (made : Made) (s : State) where
  abbrev pub not_out : ℕ → Type 0
  not_out n = count n s.out ≡ 0

  abbrev pub outside : (place : ℕ) → Type 0
  outside place = s.shelf.count ≤ place

  abbrev pub in_place : (place : ℕ) → List ℕ
  in_place place = s.shelf.bytes place

  -- a draw hands out the next number
  abbrev pub draw_table : Table BoxFault
  draw_table =
      (last_number < s.next, box_fault None UsedUp)
      ∷ (16 ≤ length s.out, box_fault None SixteenOut)
      ∷ []

  abbrev pub Draws : (answer : Result ℕ BoxFault) (t : State) → Type 0
  Draws answer t =
      By draw_table (λ fault. (answer ≡ Err fault) × (t ≡ s))
      ((answer ≡ Ok s.next) × (t ≡ record s { next = s.next + 1; out = s.out ++ (s.next ∷ []) }))

  -- a seal puts a sheet, leaves its record in the buffer, and spends the number
  abbrev pub seal_table : (number place : ℕ) (label message buffer : List ℕ) → Table BoxFault
  seal_table number place label message buffer =
      (Not ((length label ≡ 46) × (length buffer ≡ 1024)), box_fault (Some place) Length)
      ∷ (928 < length message, box_fault (Some place) Limit)
      ∷ (outside place, box_fault (Some place) (Shelf Outside))
      ∷ (Not (Open s.shelf place), box_fault (Some place) (Shelf Shut))
      ∷ (not_out number, box_fault (Some place) NotOut)
      ∷ []

  abbrev pub Seals : (number place : ℕ) (label message buffer : List ℕ)
      (answer : Done) (buffer' : List ℕ) (t : State) → Type 0
  Seals number place label message buffer answer buffer' t =
      By (seal_table number place label message buffer)
      (λ fault. (answer ≡ Err fault) × (t ≡ s) × (buffer' ≡ buffer))
      ((answer ≡ Ok tt)
      × (buffer' ≡ sheet made.forward made.key made.sign number place label message)
      × Placed s.shelf place buffer' t.shelf
      × (t ≡ record s { shelf = t.shelf; out = without number s.out }))

  -- a slip is made in its buffer, and spends the number
  abbrev pub slip_table : (number : ℕ) (message : Message) (buffer : List ℕ) → Table BoxFault
  slip_table number message buffer =
      (Not (length buffer ≡ 48), box_fault None Length)
      ∷ (TooLong message, box_fault None Limit)
      ∷ (message ≡ None, box_fault None Content)
      ∷ (not_out number, box_fault None NotOut)
      ∷ []

  abbrev pub Slips : (number : ℕ) (message : Message) (buffer : List ℕ)
      (answer : Done) (buffer' : List ℕ) (t : State) → Type 0
  Slips number message buffer answer buffer' t =
      By (slip_table number message buffer)
      (λ fault. (answer ≡ Err fault) × (t ≡ s) × (buffer' ≡ buffer))
      ((bytes : List ℕ)
      × (message ≡ Some bytes)
      × (answer ≡ Ok tt)
      × (buffer' ≡ slip made.forward made.key made.sign number bytes)
      × (t ≡ record s { out = without number s.out }))

  -- a void ends a number
  abbrev pub void_table : (number : ℕ) → Table BoxFault
  void_table number = (not_out number, box_fault None NotOut) ∷ []

  abbrev pub Voids : (number : ℕ) (answer : Done) (t : State) → Type 0
  Voids number answer t =
      By (void_table number) (λ fault. (answer ≡ Err fault) × (t ≡ s))
      ((answer ≡ Ok tt) × (t ≡ record s { out = without number s.out }))

  -- a clear empties a place
  abbrev pub clear_table : (place : ℕ) → Table BoxFault
  clear_table place =
      (outside place, box_fault (Some place) (Shelf Outside))
      ∷ (Not (Open s.shelf place), box_fault (Some place) (Shelf Shut))
      ∷ []

  abbrev pub Clears : (place : ℕ) (answer : Done) (t : State) → Type 0
  Clears place answer t =
      By (clear_table place) (λ fault. (answer ≡ Err fault) × (t ≡ s))
      ((answer ≡ Ok tt) × Placed s.shelf place empty t.shelf × (t ≡ record s { shelf = t.shelf }))

  -- a read gives number and length, and leaves the record with the message in place of its
  -- ciphertext
  abbrev pub read_table : (place : ℕ) (buffer : List ℕ) → Table BoxFault
  read_table place buffer =
      (Not (length buffer ≡ 1024), box_fault (Some place) Length)
      ∷ (outside place, box_fault (Some place) (Shelf Outside))
      ∷ (in_place place ≡ empty, box_fault (Some place) Empty)
      ∷ (Not (WellFormed (in_place place)), box_fault (Some place) Filling)
      ∷ (
        Not (tag_in (in_place place) ≡ right_tag made.forward made.key place (in_place place)),
        box_fault (Some place) (Mode Tag),
      )
      ∷ []

  abbrev pub Reads : (place : ℕ) (buffer : List ℕ)
      (answer : Result (ℕ × ℕ) BoxFault) (buffer' : List ℕ) → Type 0
  Reads place buffer answer buffer' =
      By (read_table place buffer)
      (λ fault. (answer ≡ Err fault) × (buffer' ≡ left fault buffer))
      ((answer ≡ Ok (number_in (in_place place), length_in (in_place place)))
      × (buffer' ≡ opened made.forward made.key (in_place place)))

  -- an unslip gives the length of a slip's message, and leaves the message and zeros
  abbrev pub unslip_table : (bytes buffer : List ℕ) → Table BoxFault
  unslip_table bytes buffer =
      (Not ((length bytes ≡ 48) × (length buffer ≡ 15)), box_fault None Length)
      ∷ (Not ((message : List ℕ) × InSlip made bytes message), box_fault None (Mode Padding))
      ∷ []

  abbrev pub Unslips : (bytes buffer : List ℕ)
      (answer : Result ℕ BoxFault) (buffer' : List ℕ) → Type 0
  Unslips bytes buffer answer buffer' =
      By (unslip_table bytes buffer)
      (λ fault. (answer ≡ Err fault) × (buffer' ≡ left fault buffer))
      ((message : List ℕ)
      × InSlip made bytes message
      × (answer ≡ Ok (length message))
      × (buffer' ≡ filled message))

  -- the reader of a kind opens a slip as an unslip does, and gives the content that writes its
  -- message; it changes nothing, and is no line of a log
  module _ {Content : Type 0} (writes : Content → Option (List ℕ)) where
    abbrev pub OfContent : (bytes : List ℕ) → Content → (message : List ℕ) → Type 0
    OfContent bytes content message = InSlip made bytes message × (writes content ≡ Some message)

    abbrev pub reader_table : (bytes buffer : List ℕ) → Table BoxFault
    reader_table bytes buffer =
        unslip_table bytes buffer
        ++ ((
          Not ((content : Content) × (message : List ℕ) × OfContent bytes content message),
          box_fault None OtherKind,
        )
        ∷ [])

    abbrev pub ReadsSlip : (bytes buffer : List ℕ)
        (answer : Result Content BoxFault) (buffer' : List ℕ) → Type 0
    ReadsSlip bytes buffer answer buffer' =
        By (reader_table bytes buffer)
        (λ fault. (answer ≡ Err fault) × (buffer' ≡ left fault buffer))
        ((content : Content) × (message : List ℕ)
        × OfContent bytes content message
        × (answer ≡ Ok content)
        × (buffer' ≡ filled message))

  -- the number at a place, which is absent where the place is empty; it changes nothing, and is no
  -- line of a log
  abbrev pub number_table : (place : ℕ) → Table BoxFault
  number_table place = (outside place, box_fault (Some place) (Shelf Outside)) ∷ []

  abbrev pub TellsNumber : (place : ℕ) (answer : Result (Option ℕ) BoxFault) → Type 0
  TellsNumber place answer =
      By (number_table place) (λ fault. answer ≡ Err fault)
      ((in_place place ≡ empty → answer ≡ Ok None)
      × (Not (in_place place ≡ empty) → answer ≡ Ok (Some (number_in (in_place place)))))

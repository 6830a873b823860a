-- Each row of a call's table applies or does not, whatever was handed in and whatever the box is.
use Rattle.std.proofs.Common.{◌≡◌, ℕ, ◌+◌, ◌-◌, List, length, take, drop, Some, None, sym, refl, ap, ◌∙◌, subst}
use Rattle.std.proofs.Common.{arith}
use mathlib.Core.List.{List-discrete}
use native.Mathlib.Decide.{ℕ_discrete, dec_le, dec_lt}
use Rattle.std.proofs.lemmas.List.{take_at, drop_at}
use Rattle.std.proofs.lemmas.Option.{none-some}
use Rattle.octets.specs.Octets.{zeros, part}
use Rattle.modes.specs.Bytes.{padded}
use Rattle.modes.specs.Short.{BlockHolds}
use Rattle.shelf.specs.Meaning.{Open, open_at}
use Rattle.records.specs.Records.{empty, length_in, tag_in, WellFormed}
use Rattle.records.specs.Sheets.{right_tag}
use Rattle.numbers.specs.Counting.{count}
use Rattle.box_model.specs.States.{Made, State}
use Rattle.box_model.specs.Calls.{Message, TooLong, not_out, draw_table, seal_table, slip_table}
use Rattle.box_model.specs.Calls.{void_table}
use Rattle.box_model.specs.Calls.{clear_table, read_table, unslip_table, number_table}
use Rattle.box_model.proofs.Tables.{Decided, dec_not, dec_both, dec_true, dec_below}

pub same_list : (xs ys : List ℕ) → Dec (xs ≡ ys)
same_list xs ys = List-discrete ℕ_discrete xs ys

-- the message is the front of what is padded
front_padded : (m : List ℕ) → take (length m) (padded 16 m) ≡ m
unfolding padded
front_padded m = take_at m _ (length m) refl

-- whether a slip holds some message: that would be a front of what follows the nonce
module _ (made : Made) (bytes : List ℕ) where
  abbrev Holds : List ℕ → Type 0
  Holds message = BlockHolds made.back made.key (take 16 bytes) (drop 16 bytes) message

  pub holds_or_not : Dec ((message : List ℕ) × Holds message)
  holds_or_not =
      elim (dec_below (λ k. Holds (front k)) front_holds 16) [
        | yes h ↦ yes (front h.0, h.2)
        | no n ↦ no (λ h. n (length h.0, omega (arith, h.1.0), at_front h))
      ]
    where
      block : List ℕ
      block = made.back made.key 6 10 (drop 16 bytes)

      front : ℕ → List ℕ
      front k = take k (drop (length (take 16 bytes)) block)

      front_holds : (k : ℕ) → Dec (Holds (front k))
      front_holds k = dec_both (dec_le (length (front k)) 15) (same_list block _)

      at_front : (h : (message : List ℕ) × Holds message) → Holds (front (length h.0))
      at_front h =
          subst (λ m. Holds m)
          (sym (ap (λ b. take (length h.0) (drop (length (take 16 bytes)) b)) h.1.1
          ∙ (ap (take (length h.0)) (drop_at (take 16 bytes) _ _ refl) ∙ front_padded h.0)))
          h.1

well_formed_or_not : (bytes : List ℕ) → Dec (WellFormed bytes)
well_formed_or_not bytes =
    let n : ℕ = length_in bytes in
    dec_both (dec_le n 928) (same_list (part (64 + n) (928 - n) bytes) (zeros (928 - n)))

too_long_or_not : (message : Message) → Dec (TooLong message)
too_long_or_not None = no (λ h. h)
too_long_or_not (Some bytes) = dec_lt _ (length bytes)

none_or_not : (message : Message) → Dec (message ≡ None)
none_or_not None = yes refl
none_or_not (Some bytes) = no (λ e. none-some bytes (sym e))

module _ (made : Made) (s : State) where
  out_or_not : (number : ℕ) → Dec (not_out made s number)
  out_or_not number = ℕ_discrete (count number s.out) 0

  open_or_not : (place : ℕ) → Dec (Open s.shelf place)
  open_or_not place = dec_true (open_at s.shelf place)

  pub draw_decided : Decided (draw_table made s)
  draw_decided = (dec_lt _ s.next, (dec_le _ (length s.out), tt))

  pub seal_decided : (number place : ℕ) (label message buffer : List ℕ)
      → Decided (seal_table made s number place label message buffer)
  seal_decided number place label message buffer = (
    dec_not (dec_both (ℕ_discrete (length label) _) (ℕ_discrete (length buffer) _)),
    (
      dec_lt _ (length message),
      (dec_le s.shelf.count place, (dec_not (open_or_not place), (out_or_not number, tt))),
    ),
  )

  pub slip_decided : (number : ℕ) (message : Message) (buffer : List ℕ)
      → Decided (slip_table made s number message buffer)
  slip_decided number message buffer = (
    dec_not (ℕ_discrete (length buffer) _),
    (too_long_or_not message, (none_or_not message, (out_or_not number, tt))),
  )

  pub void_decided : (number : ℕ) → Decided (void_table made s number)
  void_decided number = (out_or_not number, tt)

  pub clear_decided : (place : ℕ) → Decided (clear_table made s place)
  clear_decided place = (dec_le s.shelf.count place, (dec_not (open_or_not place), tt))

  pub read_decided : (place : ℕ) (buffer : List ℕ) → Decided (read_table made s place buffer)
  read_decided place buffer =
      let bytes : List ℕ = s.shelf.bytes place in
      let right : List ℕ = right_tag made.forward made.key place bytes in (
        dec_not (ℕ_discrete (length buffer) _),
        (
          dec_le s.shelf.count place,
          (
            same_list bytes empty,
            (
              dec_not (well_formed_or_not bytes),
              (dec_not (same_list (tag_in bytes) right), tt),
            ),
          ),
        ),
      )

  pub unslip_decided : (bytes buffer : List ℕ) → Decided (unslip_table made s bytes buffer)
  unslip_decided bytes buffer = (
    dec_not (dec_both (ℕ_discrete (length bytes) _) (ℕ_discrete (length buffer) _)),
    (dec_not (holds_or_not made bytes), tt),
  )

  pub number_decided : (place : ℕ) → Decided (number_table made s place)
  number_decided place = (dec_le s.shelf.count place, tt)

-- Every call has an answer.
use Rattle.std.proofs.Common.{◌≡◌, ℕ, ◌+◌, cond, eqb, List, [], ◌∷◌, ◌++◌, length, take, drop, Some}
use Rattle.std.proofs.Common.{None, Ok, Err, Option, Result, refl}
use Rattle.std.proofs.lemmas.Bool.{eq-eqb, ne_eqb, cond-true, cond-false}
use Rattle.faults.specs.Causes.{left}
use Rattle.faults.specs.Tables.{Not, Clear}
use Rattle.faults.specs.declared.BoxFault.{BoxFault}
use Rattle.modes.specs.Short.{BlockHolds, filled}
use Rattle.shelf.specs.Meaning.{Meaning, Placed}
use Rattle.records.specs.Records.{empty, number_in, length_in}
use Rattle.records.specs.Sheets.{sheet, slip, opened}
use Rattle.numbers.specs.Counting.{without}
use Rattle.box_model.specs.States.{Made, State}
use Rattle.box_model.specs.Calls.{Done, Message, Draws, Seals, Slips, Voids, Clears, Reads, Unslips}
use Rattle.box_model.specs.Calls.{TellsNumber, draw_table, seal_table, slip_table, void_table}
use Rattle.box_model.specs.Calls.{clear_table, read_table, unslip_table, number_table}
use Rattle.box_model.specs.Answers.{AlwaysAnswerable}
use Rattle.box_model.proofs.Tables.{outcome}
use Rattle.box_model.proofs.Decisions.{same_list, holds_or_not, draw_decided, seal_decided}
use Rattle.box_model.proofs.Decisions.{slip_decided, void_decided, clear_decided, read_decided}
use Rattle.box_model.proofs.Decisions.{unslip_decided, number_decided}

-- a shelf after a put that shuts nothing
put_at : ℕ → List ℕ → Meaning → Meaning
put_at p bytes m = record m { bytes = λ q. cond (eqb q p) bytes (m.bytes q) }

placed_at : (p : ℕ) (bytes : List ℕ) (m : Meaning) → Placed m p bytes (put_at p bytes m)
unfolding put_at
placed_at p bytes m = record {
  count = refl;
  here = cond-true (eqb p p) bytes (m.bytes p) (eq-eqb p p refl);
  elsewhere = λ q l d. cond-false (eqb q p) bytes (m.bytes q) (ne_eqb q p d);
  opens_none = λ q h. h;
}

module _ (made : Made) (s : State) where
  draw_can : (x : Result ℕ BoxFault × State) × Draws made s x.0 x.1
  draw_can =
      outcome {X = Result ℕ BoxFault × State} (λ x f. (x.0 ≡ Err f) × (x.1 ≡ s))
      (λ x. (x.0 ≡ Ok s.next)
      × (x.1 ≡ record s { next = s.next + 1; out = s.out ++ (s.next ∷ []) }))
      (λ f. (Err f, s)) (λ f. (refl, refl)) (draw_table made s) (draw_decided made s)
      (λ c. (
        (Ok s.next, record s { next = s.next + 1; out = s.out ++ (s.next ∷ []) }),
        (refl, refl),
      ))

  seal_can : (n p : ℕ) (label message buffer : List ℕ)
      → (x : Done × List ℕ × State) × Seals made s n p label message buffer x.0 x.1 x.2
  unfolding put_at
  seal_can n p label message buffer =
      let bytes : List ℕ = sheet made.forward made.key made.sign n p label message in
      outcome {X = Done × List ℕ × State} (λ x f. (x.0 ≡ Err f) × (x.2 ≡ s) × (x.1 ≡ buffer))
      (λ x. (x.0 ≡ Ok tt) × (x.1 ≡ sheet made.forward made.key made.sign n p label message)
      × Placed s.shelf p x.1 x.2.shelf
      × (x.2 ≡ record s { shelf = x.2.shelf; out = without n s.out }))
      (λ f. (Err f, buffer, s)) (λ f. (refl, refl, refl))
      (seal_table made s n p label message buffer) (seal_decided made s n p label message buffer)
      (λ c. (
        (Ok tt, bytes, record s { shelf = put_at p bytes s.shelf; out = without n s.out }),
        (refl, refl, placed_at p bytes s.shelf, refl),
      ))

  slip_can : (n : ℕ) (message : Message) (buffer : List ℕ)
      → (x : Done × List ℕ × State) × Slips made s n message buffer x.0 x.1 x.2
  slip_can n message buffer =
      outcome {X = Done × List ℕ × State} (λ x f. (x.0 ≡ Err f) × (x.2 ≡ s) × (x.1 ≡ buffer))
      (λ x. (bytes : List ℕ) × (message ≡ Some bytes) × (x.0 ≡ Ok tt)
      × (x.1 ≡ slip made.forward made.key made.sign n bytes)
      × (x.2 ≡ record s { out = without n s.out }))
      (λ f. (Err f, buffer, s)) (λ f. (refl, refl, refl))
      (slip_table made s n message buffer) (slip_decided made s n message buffer)
      (λ c. some message refl c.1.1.0)
    where
      some : (handed : Message) → message ≡ handed → Not (message ≡ None)
          → (x : Done × List ℕ × State) × ((bytes : List ℕ) × (message ≡ Some bytes)
          × (x.0 ≡ Ok tt) × (x.1 ≡ slip made.forward made.key made.sign n bytes)
          × (x.2 ≡ record s { out = without n s.out }))
      some None e never = absurd (never e)
      some (Some bytes) e never = (
        (
          Ok tt,
          slip made.forward made.key made.sign n bytes,
          record s { out = without n s.out },
        ),
        (bytes, e, refl, refl, refl),
      )

  void_can : (n : ℕ) → (x : Done × State) × Voids made s n x.0 x.1
  void_can n =
      outcome {X = Done × State} (λ x f. (x.0 ≡ Err f) × (x.1 ≡ s))
      (λ x. (x.0 ≡ Ok tt) × (x.1 ≡ record s { out = without n s.out }))
      (λ f. (Err f, s)) (λ f. (refl, refl)) (void_table made s n) (void_decided made s n)
      (λ c. ((Ok tt, record s { out = without n s.out }), (refl, refl)))

  clear_can : (p : ℕ) → (x : Done × State) × Clears made s p x.0 x.1
  clear_can p =
      outcome {X = Done × State} (λ x f. (x.0 ≡ Err f) × (x.1 ≡ s))
      (λ x. (x.0 ≡ Ok tt) × Placed s.shelf p empty x.1.shelf
      × (x.1 ≡ record s { shelf = x.1.shelf }))
      (λ f. (Err f, s)) (λ f. (refl, refl)) (clear_table made s p) (clear_decided made s p)
      (λ c. (
        (Ok tt, record s { shelf = put_at p empty s.shelf }),
        (refl, placed_at p empty s.shelf, refl),
      ))

  read_can : (p : ℕ) (buffer : List ℕ) → (x : Result (ℕ × ℕ) BoxFault × List ℕ)
      × Reads made s p buffer x.0 x.1
  read_can p buffer =
      let bytes : List ℕ = s.shelf.bytes p in
      outcome {X = Result (ℕ × ℕ) BoxFault × List ℕ} (λ x f. (x.0 ≡ Err f) × (x.1 ≡ left f buffer))
      (λ x. (x.0 ≡ Ok (number_in bytes, length_in bytes))
      × (x.1 ≡ opened made.forward made.key bytes))
      (λ f. (Err f, left f buffer)) (λ f. (refl, refl))
      (read_table made s p buffer) (read_decided made s p buffer)
      (λ c. (
        (Ok (number_in bytes, length_in bytes), opened made.forward made.key bytes),
        (refl, refl),
      ))

  unslip_can : (bytes buffer : List ℕ) → (x : Result ℕ BoxFault × List ℕ)
      × Unslips made s bytes buffer x.0 x.1
  unslip_can bytes buffer =
      outcome {X = Result ℕ BoxFault × List ℕ} (λ x f. (x.0 ≡ Err f) × (x.1 ≡ left f buffer))
      (λ x. (message : List ℕ)
      × BlockHolds made.back made.key (take 16 bytes) (drop 16 bytes) message
      × (x.0 ≡ Ok (length message)) × (x.1 ≡ filled message))
      (λ f. (Err f, left f buffer)) (λ f. (refl, refl))
      (unslip_table made s bytes buffer) (unslip_decided made s bytes buffer)
      (λ c. by c (holds_or_not made bytes))
    where
      by : Clear (unslip_table made s bytes buffer)
          → Dec ((message : List ℕ)
          × BlockHolds made.back made.key (take 16 bytes) (drop 16 bytes) message)
          → (x : Result ℕ BoxFault × List ℕ) × ((message : List ℕ)
          × BlockHolds made.back made.key (take 16 bytes) (drop 16 bytes) message
          × (x.0 ≡ Ok (length message)) × (x.1 ≡ filled message))
      by c (yes h) = ((Ok (length h.0), filled h.0), (h.0, h.1, refl, refl))
      by c (no n) = absurd (c.1.0 n)

  number_can : (p : ℕ) → (answer : Result (Option ℕ) BoxFault) × TellsNumber made s p answer
  number_can p =
      outcome {X = Result (Option ℕ) BoxFault} (λ x f. x ≡ Err f)
      (λ x. (s.shelf.bytes p ≡ empty → x ≡ Ok None)
      × (Not (s.shelf.bytes p ≡ empty) → x ≡ Ok (Some (number_in (s.shelf.bytes p)))))
      (λ f. Err f) (λ f. refl) (number_table made s p) (number_decided made s p)
      (λ c. elim (same_list (s.shelf.bytes p) empty) [
        | yes e ↦ (Ok None, (λ h. refl, λ n. absurd (n e)))
        | no n ↦ (Ok (Some (number_in (s.shelf.bytes p))), (λ e. absurd (n e), λ h. refl))
      ])

pub answerable : AlwaysAnswerable
answerable made s = record {
  draws = let x = draw_can made s in (x.0.0, x.0.1, x.1);
  seals = λ n p label message buffer.
      let x = seal_can made s n p label message buffer in (x.0.0, x.0.1, x.0.2, x.1);
  slips = λ n message buffer.
      let x = slip_can made s n message buffer in (x.0.0, x.0.1, x.0.2, x.1);
  voids = λ n. let x = void_can made s n in (x.0.0, x.0.1, x.1);
  clears = λ p. let x = clear_can made s p in (x.0.0, x.0.1, x.1);
  reads = λ p buffer. let x = read_can made s p buffer in (x.0.0, x.0.1, x.1);
  unslips = λ bytes buffer. let x = unslip_can made s bytes buffer in (x.0.0, x.0.1, x.1);
  numbers = number_can made s;
}

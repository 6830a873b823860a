-- What each effect makes of a box, exactly, and that a log does what its effects say.
use Rattle.std.proofs.Common.{◌≡◌, ℕ, ◌+◌, ◌<◌, ◌≤◌, List, [], ◌∷◌, ◌++◌, length, Ok, Err, Result}
use Rattle.std.proofs.Common.{Some, None, refl, sym, ap, ◌∙◌, subst, ⊎_elim, append_assoc, arith}
use Rattle.std.proofs.lemmas.List.{append-nil, flat_map_more}
use Rattle.faults.specs.Tables.{Table, By}
use Rattle.faults.specs.declared.BoxFault.{BoxFault}
use Rattle.faults.proofs.Tables.{done_when, stable_eq}
use Rattle.faults.proofs.Results.{never_both, same_value}
use Rattle.shelf.specs.Meaning.{Meaning, Placed}
use Rattle.records.specs.Records.{empty}
use Rattle.records.specs.Sheets.{sheet}
use Rattle.numbers.specs.Counting.{count, without}
use Rattle.box_model.specs.States.{Made, State, last_number}
use Rattle.box_model.specs.Calls.{Done, draw_table, seal_table, slip_table, void_table, clear_table}
use Rattle.box_model.specs.Calls.{Draws, Seals, Slips, Voids, Clears}
use Rattle.box_model.specs.Logs.{Line, Does, Log, nothing_yet, and_then, draw, seal, slips, void}
use Rattle.box_model.specs.Logs.{clear, read, unslip}
use Rattle.box_model.specs.Effects.{Effect, drew, sealed, slipped, voided, cleared, effects}
use Rattle.box_model.specs.Effects.{all_effects}
use Rattle.box_model.proofs.Tables.{Decided, settled}
use Rattle.box_model.proofs.Decisions.{draw_decided, seal_decided, slip_decided, void_decided}
use Rattle.box_model.proofs.Decisions.{clear_decided}

-- the next number goes out
pub record Begins (n : ℕ) (s t : State) : Type 0 where
  pub is_next : n ≡ s.next
  pub low : n ≤ last_number
  pub room : length s.out < 16
  pub next : t.next ≡ s.next + 1
  pub out : t.out ≡ s.out ++ (n ∷ [])

-- a number is out, and then no more
pub record Ends (n : ℕ) (s t : State) : Type 0 where
  pub was_out : 0 < count n s.out
  pub next : t.next ≡ s.next
  pub out : t.out ≡ without n s.out

pub record Puts (p : ℕ) (bytes : List ℕ) (m m' : Meaning) : Type 0 where
  pub inside : p < m.count
  pub put : Placed m p bytes m'

abbrev pub Turn : Made → State → Effect → State → Type 0
Turn made s (drew n) t = Begins n s t × (t.shelf ≡ s.shelf)
Turn made s (sealed n p l m r) t =
    Ends n s t × Puts p (sheet made.forward made.key made.sign n p l m) s.shelf t.shelf
    × (length l ≡ 46) × (length m ≤ 928)
Turn made s (slipped n m r) t = Ends n s t × (t.shelf ≡ s.shelf)
Turn made s (voided n) t = Ends n s t × (t.shelf ≡ s.shelf)
Turn made s (cleared p) t = (t.next ≡ s.next) × (t.out ≡ s.out) × Puts p empty s.shelf t.shelf

pub data Run (made : Made) : State → List Effect → State → Type 0 where
  stop : {s : State} → Run made s [] s
  turn : {s v t : State} {e : Effect} {es : List Effect} → Turn made s e v → Run made v es t
      → Run made s (e ∷ es) t

still : (made : Made) (s t : State) → t ≡ s → Run made s [] t
still made s t e = subst (λ x. Run made s [] x) (sym e) stop

single : {made : Made} {s t : State} {e : Effect} → Turn made s e t → Run made s (e ∷ []) t
single x = turn x stop

-- a call that was not done left the box as it was
stays : {Fault : Type 0} (refused : Fault → Type 0) (done : Type 0) (s t : State)
    (rows : Table Fault) → Decided rows
    → ((f : Fault) → refused f → t ≡ s) → (done → ⊥) → By rows refused done → t ≡ s
stays refused done s t rows d told never b =
    ⊎_elim (λ r. told r.0 r.1) (λ x. absurd (never x.0)) (settled refused done rows d b)

-- the done calls
module _ (made : Made) (s t : State) where
  pub draw_turn : (n : ℕ) → Draws made s (Ok n) t → Turn made s (drew n) t
  draw_turn n d =
      let k = done_when (λ f. (◌≡◌ {A = Result ℕ BoxFault} (Ok n) (Err f)) × (t ≡ s)) _
      (draw_table made s) (λ f r. never_both n f r.0) d in
      let e : n ≡ s.next = same_value n s.next k.1.0 in (
        record {
          is_next = e;
          low = omega (arith, k.0.0);
          room = omega (arith, k.0.1.0);
          next = ap (λ u. u.next) k.1.1;
          out = ap (λ u. u.out) k.1.1 ∙ ap (λ m. s.out ++ (m ∷ [])) (sym e);
        },
        ap (λ u. u.shelf) k.1.1,
      )

  seal_turn : (n p : ℕ) (l m b : List ℕ) (x : Unit {0}) (r : List ℕ)
      → Seals made s n p l m b (Ok x) r t → Turn made s (sealed n p l m r) t
  seal_turn n p l m b x r d =
      let k = done_when (λ f. (◌≡◌ {A = Done} (Ok x) (Err f)) × (t ≡ s) × (r ≡ b)) _
      (seal_table made s n p l m b) (λ f r. never_both tt f r.0) d in (
        record {
          was_out = omega (arith, k.0.1.1.1.1.0);
          next = ap (λ u. u.next) k.1.3;
          out = ap (λ u. u.out) k.1.3;
        },
        record {
          inside = omega (arith, k.0.1.1.0);
          put = subst (λ x. Placed s.shelf p x t.shelf) k.1.1 k.1.2;
        },
        stable_eq (length l) 46 (λ x. k.0.0 (λ y. x y.0)),
        omega (arith, k.0.1.0),
      )

  slip_turn : (n : ℕ) (m b : List ℕ) (x : Unit {0}) (r : List ℕ)
      → Slips made s n (Some m) b (Ok x) r t → Turn made s (slipped n m r) t
  slip_turn n m b x r d =
      let k = done_when (λ f. (◌≡◌ {A = Done} (Ok x) (Err f)) × (t ≡ s) × (r ≡ b)) _
      (slip_table made s n (Some m) b) (λ f r. never_both tt f r.0) d in (
        record {
          was_out = omega (arith, k.0.1.1.1.0);
          next = ap (λ u. u.next) k.1.4;
          out = ap (λ u. u.out) k.1.4;
        },
        ap (λ u. u.shelf) k.1.4,
      )

  -- a content that has no message is not done
  slip_of_none : (n : ℕ) (b : List ℕ) (x : Unit {0}) (r : List ℕ)
      → Slips made s n None b (Ok x) r t → ⊥
  slip_of_none n b x r d =
      let k = done_when (λ f. (◌≡◌ {A = Done} (Ok x) (Err f)) × (t ≡ s) × (r ≡ b)) _
      (slip_table made s n None b) (λ f r. never_both tt f r.0) d in
      k.0.1.1.0 refl

  void_turn : (n : ℕ) (x : Unit {0}) → Voids made s n (Ok x) t → Turn made s (voided n) t
  void_turn n x d =
      let k = done_when (λ f. (◌≡◌ {A = Done} (Ok x) (Err f)) × (t ≡ s)) _
      (void_table made s n) (λ f r. never_both tt f r.0) d in (
        record {
          was_out = omega (arith, k.0.0);
          next = ap (λ u. u.next) k.1.1;
          out = ap (λ u. u.out) k.1.1;
        },
        ap (λ u. u.shelf) k.1.1,
      )

  clear_turn : (p : ℕ) (x : Unit {0}) → Clears made s p (Ok x) t → Turn made s (cleared p) t
  clear_turn p x d =
      let k = done_when (λ f. (◌≡◌ {A = Done} (Ok x) (Err f)) × (t ≡ s)) _
      (clear_table made s p) (λ f r. never_both tt f r.0) d in (
        ap (λ u. u.next) k.1.2,
        ap (λ u. u.out) k.1.2,
        record { inside = omega (arith, k.0.0); put = k.1.1 },
      )

-- a line is a run of turns
module _ (made : Made) where
  each : (s t : State) (l : Line) → Does made s l t → Run made s (effects l) t
  each s t (draw (Ok n)) d = single (draw_turn made s t n d)
  each s t (draw (Err e)) d =
      still made s t (stays (λ f. (◌≡◌ {A = Result ℕ BoxFault} (Err e) (Err f)) × (t ≡ s)) _ s t
      (draw_table made s) (draw_decided made s) (λ f r. r.1) (λ k. never_both s.next e (sym k.0)) d)
  each s t (seal n p l m b (Ok x) r) d = single (seal_turn made s t n p l m b x r d)
  each s t (seal n p l m b (Err e) r) d =
      still made s t (stays (λ f. (◌≡◌ {A = Done} (Err e) (Err f)) × (t ≡ s) × (r ≡ b)) _ s t
      (seal_table made s n p l m b) (seal_decided made s n p l m b) (λ f r. r.1)
      (λ k. never_both tt e (sym k.0)) d)
  each s t (slips n (Some m) b (Ok x) r) d = single (slip_turn made s t n m b x r d)
  each s t (slips n None b (Ok x) r) d = absurd (slip_of_none made s t n b x r d)
  each s t (slips n m b (Err e) r) d =
      still made s t (stays (λ f. (◌≡◌ {A = Done} (Err e) (Err f)) × (t ≡ s) × (r ≡ b)) _ s t
      (slip_table made s n m b) (slip_decided made s n m b) (λ f r. r.1)
      (λ k. never_both tt e (sym k.2)) d)
  each s t (void n (Ok x)) d = single (void_turn made s t n x d)
  each s t (void n (Err e)) d =
      still made s t (stays (λ f. (◌≡◌ {A = Done} (Err e) (Err f)) × (t ≡ s)) _ s t
      (void_table made s n) (void_decided made s n) (λ f r. r.1) (λ k. never_both tt e (sym k.0)) d)
  each s t (clear p (Ok x)) d = single (clear_turn made s t p x d)
  each s t (clear p (Err e)) d =
      still made s t (stays (λ f. (◌≡◌ {A = Done} (Err e) (Err f)) × (t ≡ s)) _ s t
      (clear_table made s p) (clear_decided made s p) (λ f r. r.1)
      (λ k. never_both tt e (sym k.0)) d)
  each s t (read p b a r) d = still made s t d.0
  each s t (unslip x b a r) d = still made s t d.0

  after_run : {s v t : State} {es fs : List Effect} → Run made s es v → Run made v fs t
      → Run made s (es ++ fs) t
  after_run stop more = more
  after_run (turn x run) more = turn x (after_run run more)

  runs : {s t : State} {lines : List Line} → Log made s lines t → Run made s (all_effects lines) t
  runs nothing_yet = stop
  runs {s} (and_then {lines} {t} {u} l log handed does) =
      subst (λ es. Run made s es u) (flat_map_more effects [] lines l)
      (after_run (runs log) (each t u l does))

  -- what every turn keeps, a log keeps
  module _ (Keeps : List Effect → State → Type 0)
      (step : (es : List Effect) (s : State) (e : Effect) (t : State)
      → Turn made s e t → Keeps es s → Keeps (es ++ (e ∷ [])) t) where
    carried : {s t : State} {fs : List Effect} → Run made s fs t → (es : List Effect) → Keeps es s
        → Keeps (es ++ fs) t
    carried {s} stop es k = subst (λ x. Keeps x s) (sym (append-nil es)) k
    carried {s} {t} (turn {v} {e} {es = fs} x more) es k =
        subst (λ x. Keeps x t) (append_assoc es (e ∷ []) fs)
        (carried more (es ++ (e ∷ [])) (step es s e v x k))

    pub kept_by_log : {s t : State} {lines : List Line} → Log made s lines t → Keeps [] s
        → Keeps (all_effects lines) t
    kept_by_log log k = carried (runs log) [] k

-- What holds of the numbers drawn, ended and out, whichever effects brought them.
use Rattle.std.proofs.Common.{◌≡◌, ℕ, ◌+◌, ◌<◌, ◌≤◌, ◌⊎◌, List, [], ◌∷◌, ◌++◌, length, sym, refl}
use Rattle.std.proofs.Common.{ap, ◌∙◌, subst, inl, inr, ⊎_elim, arith}
use mathlib.Core.Path.{transport}
use Rattle.std.specs.List.{flat_map}
use Rattle.std.proofs.lemmas.List.{length_push, flat_map_more, append-nil}
use Rattle.numbers.specs.Counting.{count, without}
use Rattle.numbers.proofs.Counts.{count-append, count_one, count-without, length-without}
use Rattle.box_model.specs.States.{Made, State, last_number}
use Rattle.box_model.specs.Effects.{Effect, drew, sealed, slipped, voided, cleared, drawn_by}
use Rattle.box_model.specs.Effects.{ended_by}
use Rattle.box_model.specs.Laws.{apart}
use Rattle.box_model.proofs.Apart.{apart_push, apart_more}
use Rattle.box_model.proofs.Turns.{Turn, Begins, Ends}

abbrev pub InRange : ℕ → Type 0
InRange n = (1 ≤ n) × (n ≤ last_number)

-- of a box whose first number was the first, and which began with none out
pub record Sound (first : ℕ) (ended drawn : List ℕ) (next : ℕ) (out : List ℕ) : Type 0 where
  pub once : (n : ℕ) → count n drawn ≤ 1
  pub fresh : (n : ℕ) → (InRange n × (n < next)) ⊎ (count n drawn ≡ 0)
  pub adds : (n : ℕ) → count n (ended ++ out) ≡ count n drawn
  pub next_is : next ≡ first + length drawn
  pub out_is : out ≡ apart ended drawn
  pub sixteen : length out ≤ 16

sound-start : (first : ℕ) → Sound first [] [] first []
sound-start first = record {
  once = λ n. omega arith;
  fresh = λ n. inr refl;
  adds = λ n. refl;
  next_is = omega arith;
  out_is = refl;
  sixteen = omega arith;
}

module _ (first : ℕ) (ended drawn : List ℕ) (next : ℕ) (out : List ℕ)
    (s : Sound first ended drawn next out) where
  range_out : (n : ℕ) → 0 < count n out → InRange n
  range_out n h =
      ⊎_elim (λ r. r.0) (λ z. omega (arith, s.adds n, count-append n ended out)) (s.fresh n)

  end_once : (n : ℕ) → count n ended ≤ 1
  end_once n = omega (arith, s.once n, s.adds n, count-append n ended out)

  sound-draw : 1 ≤ first → next ≤ last_number → length out < 16
      → Sound first ended (drawn ++ (next ∷ [])) (next + 1) (out ++ (next ∷ []))
  sound-draw pos low room =
      record {
        once = λ n.
            let o = count_one n next in
            omega (arith, s.once n, s.fresh n, count-append n drawn (next ∷ []));
        fresh = λ n. fresh n (count_one n next) (s.fresh n);
        adds = λ n.
            omega (
              arith,
              s.adds n,
              count-append n drawn (next ∷ []),
              count-append n ended (out ++ (next ∷ [])),
              count-append n out (next ∷ []),
              count-append n ended out,
            );
        next_is = omega (arith, s.next_is, length_push drawn next);
        out_is = ap (λ ns. ns ++ (next ∷ [])) s.out_is
            ∙ sym (apart_push ended drawn next
            (omega (arith, s.fresh next, s.adds next, count-append next ended out)));
        sixteen = omega (arith, length_push out next);
      }
    where
      fresh : (n : ℕ) → ((n ≡ next) × (count n (next ∷ []) ≡ 1))
          ⊎ ((n ≡ next → ⊥) × (count n (next ∷ []) ≡ 0))
          → (InRange n × (n < next)) ⊎ (count n drawn ≡ 0) → (InRange n × (n < next + 1))
          ⊎ (count n (drawn ++ (next ∷ [])) ≡ 0)
      fresh n (inl o) f = inl (omega (arith, s.next_is))
      fresh n (inr o) (inl r) = inl (omega arith)
      fresh n (inr o) (inr z) = inr (omega (arith, count-append n drawn (next ∷ [])))

  sound_end : (n : ℕ) → 0 < count n out → Sound first (ended ++ (n ∷ [])) drawn next (without n out)
  sound_end n h =
      record {
        once = s.once;
        fresh = s.fresh;
        adds = λ m.
            omega (
              arith,
              s.adds m,
              count-append m ended out,
              count-append m (ended ++ (n ∷ [])) (without n out),
              count-append m ended (n ∷ []),
              count-without m n out h,
            );
        next_is = s.next_is;
        out_is = ap (without n) s.out_is
            ∙ sym (apart_more ended drawn n
            (omega (arith, s.once n, s.adds n, count-append n ended out)) (s.once n));
        sixteen = omega (arith, s.sixteen, length-without n out);
      }

sound-at : (first : ℕ) (E E' D D' : List ℕ) (next next' : ℕ) (out out' : List ℕ) → E' ≡ E → D' ≡ D
    → next' ≡ next → out' ≡ out
    → Sound first E D next out → Sound first E' D' next' out'
sound-at first E E' D D' next next' out out' e d n o s =
    transport (λ i. Sound first (sym e i) (sym d i) (sym n i) (sym o i)) s

-- the same of effects
abbrev pub Numbered : ℕ → List Effect → State → Type 0
Numbered first es s = Sound first (flat_map ended_by es) (flat_map drawn_by es) s.next s.out

pub numbered_none : (s : State) → s.out ≡ [] → Numbered s.next [] s
numbered_none s none = subst (Sound s.next [] [] s.next) (sym none) (sound-start s.next)

module _ (first : ℕ) (es : List Effect) (s : State) (k : Numbered first es s) where
  pub out-in_range : (n : ℕ) → 0 < count n s.out → InRange n
  out-in_range = range_out first _ _ _ _ k

  pub ended_once : (n : ℕ) → count n (flat_map ended_by es) ≤ 1
  ended_once = end_once first _ _ _ _ k

  -- what one more effect adds to the numbers drawn or ended
  pushed : (f : Effect → List ℕ) (e : Effect) (ns : List ℕ) → f e ≡ ns
      → flat_map f (es ++ (e ∷ [])) ≡ flat_map f es ++ ns
  pushed f e ns h = sym (flat_map_more f [] es e) ∙ ap (λ xs. flat_map f es ++ xs) h

  same : (f : Effect → List ℕ) (e : Effect) → f e ≡ [] → flat_map f (es ++ (e ∷ [])) ≡ flat_map f es
  same f e h = pushed f e [] h ∙ append-nil (flat_map f es)

  module _ (e : Effect) (t : State) where
    begun : (n : ℕ) → drawn_by e ≡ n ∷ [] → ended_by e ≡ [] → 1 ≤ first → Begins n s t
        → Numbered first (es ++ (e ∷ [])) t
    begun n d none pos b =
        sound-at first _ _ _ _ _ _ _ _ (same ended_by e none)
        (pushed drawn_by e (s.next ∷ []) (d ∙ ap (λ m. m ∷ []) b.is_next))
        b.next (b.out ∙ ap (λ m. s.out ++ (m ∷ [])) b.is_next)
        (sound-draw first _ _ _ _ k pos (omega (arith, b.low, b.is_next)) b.room)

    over : (n : ℕ) → drawn_by e ≡ [] → ended_by e ≡ n ∷ [] → Ends n s t
        → Numbered first (es ++ (e ∷ [])) t
    over n none d x =
        sound-at first _ _ _ _ _ _ _ _ (pushed ended_by e (n ∷ []) d) (same drawn_by e none)
        x.next x.out
        (sound_end first _ _ _ _ k n x.was_out)

    untouched : drawn_by e ≡ [] → ended_by e ≡ [] → t.next ≡ s.next → t.out ≡ s.out
        → Numbered first (es ++ (e ∷ [])) t
    untouched d n next out =
        sound-at first _ _ _ _ _ _ _ _ (same ended_by e n) (same drawn_by e d) next out k

pub numbered_on : (first : ℕ) → 1 ≤ first
    → (made : Made) (es : List Effect) (s : State) (e : Effect) (t : State)
    → Turn made s e t → Numbered first es s → Numbered first (es ++ (e ∷ [])) t
numbered_on first pos made es s (drew n) t x k = begun first es s k (drew n) t n refl refl pos x.0
numbered_on first pos made es s (sealed n p l m r) t x k =
    over first es s k (sealed n p l m r) t n refl refl x.0
numbered_on first pos made es s (slipped n m r) t x k =
    over first es s k (slipped n m r) t n refl refl x.0
numbered_on first pos made es s (voided n) t x k = over first es s k (voided n) t n refl refl x.0
numbered_on first pos made es s (cleared p) t x k =
    untouched first es s k (cleared p) t refl refl x.0 x.1

-- Every log of a box keeps the laws.
use Rattle.std.proofs.Common.{◌≡◌, ◌≤◌, List, [], ◌∷◌, ◌++◌, length, refl, ap, subst, arith}
use Rattle.std.proofs.lemmas.List.{same_from_push, length_push}
use Rattle.box_model.specs.States.{Made, Fair, State}
use Rattle.box_model.specs.Logs.{Line, Handed, Does, Log, nothing_yet, and_then, read}
use Rattle.box_model.specs.Effects.{Effect, all_effects, latest}
use Rattle.box_model.specs.Laws.{Kept}
use Rattle.box_model.proofs.Turns.{Turn, kept_by_log}
use Rattle.box_model.proofs.Numbers.{Numbered, numbered_none, numbered_on, ended_once}
use Rattle.box_model.proofs.Reading.{given}
use Rattle.box_model.proofs.Places.{AllHeld, held_more}
use Rattle.box_model.proofs.Slips.{Stood, slip-opens}

-- every line of a log stood in one
module _ (made : Made) where
  abbrev AllStood : List Line → Type 0
  AllStood [] = Unit {0}
  AllStood (l ∷ ls) = Stood made l × AllStood ls

  stood_push : (ls : List Line) (l : Line) → AllStood ls → Stood made l → AllStood (ls ++ (l ∷ []))
  stood_push [] l all h = (h, tt)
  stood_push (k ∷ ls) l all h = (all.0, stood_push ls l all.1 h)

  stood_right : (xs ys : List Line) → AllStood (xs ++ ys) → AllStood ys
  stood_right [] ys all = all
  stood_right (x ∷ xs) ys all = stood_right xs ys all.1

  stood : {s t : State} {ls : List Line} → Log made s ls t → AllStood ls
  stood nothing_yet = tt
  stood (and_then {lines = ls} {t} {u} l log handed does) =
      stood_push ls l (stood log) (t, u, handed, does)

  last : {s u : State} {ks : List Line} → Log made s ks u → (ls : List Line) (l : Line)
      → ks ≡ ls ++ (l ∷ [])
      → (t : State) × Log made s ls t × Handed l × Does made t l u
  last nothing_yet ls l e = absurd (omega (arith, ap length e, length_push ls l))
  last {s} (and_then {lines = ks} {t} {u} k log handed does) ls l e =
      let same = same_from_push ks ls k l e in (
        t,
        subst (λ x. Log made s x t) same.0 log,
        subst Handed same.1 handed,
        subst (λ x. Does made t x u) same.1 does,
      )

module _ (made : Made) (fair : Fair made) (s : State) (pos : 1 ≤ s.next) (none : s.out ≡ []) where
  -- what all its turns keep
  abbrev Full : List Effect → State → Type 0
  Full es t = Numbered s.next es t × AllHeld made es t

  full_on : (es : List Effect) (t : State) (e : Effect) (u : State) → Turn made t e u → Full es t
      → Full (es ++ (e ∷ [])) u
  full_on es t e u x k =
      (numbered_on s.next pos made es t e u x k.0, held_more s.next made es t k.0 k.1 e u x)

  full : {ls : List Line} {t : State} → Log made s ls t → Full (all_effects ls) t
  full log = kept_by_log made Full full_on log (numbered_none s none, λ p. tt)

  pub kept : Kept made s
  kept = record {
    answered = λ ls l u log.
        let h = last made log ls l refl in
        let k = (full h.1).0 in
        (h.0, h.1, h.2, h.3, k.next_is, k.out_is);
    drawn_once = λ ls t log. (full log).0.once;
    accounted = λ ls t log. (full log).0.adds;
    used_once = λ ls t log. ended_once s.next (all_effects ls) t (full log).0;
    sixteen = λ ls t log. (full log).0.sixteen;
    reads = λ ls t p buffer after answer log fits.
        let h = last made log ls (read p buffer answer after) refl in
        given made fair h.0 p buffer after answer fits (latest p (all_effects ls))
        ((full h.1).1 p) h.3.1;
    unslips = λ before between t n message buffer bytes room after answer log fits.
        let h = stood_right made before _ (stood made log) in
        slip-opens made fair n message buffer bytes room after answer h.0
        (stood_right made between _ h.1).0 fits;
  }

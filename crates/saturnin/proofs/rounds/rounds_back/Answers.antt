use Rattle.std.proofs.Common.{◌≡◌, ◌+◌, ◌*◌, ◌/◌, ◌<◌, length, refl, sym, ap, ◌∙◌, ap₂, rules, arith}
use Rattle.std.proofs.lemmas.List.{length_push}
use Rattle.saturnin.specs.Layers.{add}
use Rattle.saturnin.specs.Back.{rounds⁻¹}
use Rattle.saturnin.proofs.Schedules.{long}
use Rattle.saturnin.proofs.TwoRounds.{slice_shift, sheet_shift}
use Rattle.saturnin.proofs.Turns.{none, in_pairs, without_last, in_last, left_over, return}
use Rattle.saturnin.proofs.rounds.rounds_back.Goals as goal
use Rattle.saturnin.proofs.rounds.rounds_back.Goals.{in-Some, in-None}

pub loop-slice-init : goal.loop-slice-init
loop-slice-init g c =
    let f = c.as_chunks.ensures in
    let e : c.into_iter-slice-iterator.result.iter.rest.now ≡ c.as_chunks.result.0.now = search rules in
    let k = c.args.constants in
    let whole = long k.of.separator k.of.super_rounds k.of.super_rounds k.rounds.now k.scheduled in
    let l : length c.into_iter-slice-iterator.result.iter.rest.now ≡ length k.rounds.now / 2 = ap length e ∙ f.front_len in
    record {
      pairs = in_pairs none _ _ (e ∙ f.front) l;
      fit = omega (arith, l, whole);
      undone = ap (λ n. rounds⁻¹ (g.F.Form.cube c.args.key) k.of.separator k.of.super_rounds (2 * (2 * n)) (g.F.Form.cube c.match-first.s)) (l ∙ ap (λ n. n / 2) whole);
    }

pub loop-slice-preserved : goal.loop-slice-preserved
loop-slice-preserved g c =
    let k = c.args.constants in
    let whole = long k.of.separator k.of.super_rounds k.of.super_rounds k.rounds.now k.scheduled in
    let D = k.of.separator in
    let R = k.of.super_rounds in
    let K = g.F.Form.cube c.args.key in
    let e = c.in-Some-2.ensures.steps in
    let i = length c.next.new.self.iter.rest.now in
    let all = c.loop-slice.invariant.pairs in
    let n : length c.loop-slice.slice-iterator.iter.rest.now ≡ i + 1 = ap length e ∙ length_push _ _ in
    let l : 2 * i + 1 < R = omega (arith, c.loop-slice.invariant.fit) in
    record {
      pairs = without_last none _ _ _ _ e all;
      fit = omega (arith, c.loop-slice.invariant.fit);
      undone = return K D R _ k.scheduled (2 * i) (omega arith) (slice_shift K D R (2 * i) (omega arith)) _ _ (in_last none _ _ _ _ e all 0 _ (omega arith) (omega arith)) c.rotated-turned_key.ensures _ _
          c.super_round_back-s-in-loop-slice-2.ensures
          ∙ return K D R _ k.scheduled (2 * i + 1) l (sheet_shift K D R (2 * i + 1) (omega arith)) _ _ (in_last none _ _ _ _ e all 1 _ (omega arith) (omega arith)) refl _ _
          c.super_round_back-s-in-loop-slice.ensures
          ∙ ap (λ n. rounds⁻¹ K D R n (g.F.Form.cube c.loop-slice.s)) (omega arith)
          ∙ c.loop-slice.invariant.undone;
    }

pub returns : goal.returns
unfolding rounds⁻¹
returns g c =
    let k = c.args.constants in
    let whole = long k.of.separator k.of.super_rounds k.of.super_rounds k.rounds.now k.scheduled in
    let D = k.of.separator in
    let R = k.of.super_rounds in
    let K = g.F.Form.cube c.args.key in
    let f = c.as_chunks.ensures in
    let e : length c.loop-slice.slice-iterator.iter.rest.now ≡ 0 = c.in-None-2.ensures.steps.0 in
    let first : rounds⁻¹ K D R (2 * (2 * (R / 2))) (g.F.Form.cube c.match-first.s) ≡ rounds⁻¹ K D R (2 * R) (g.F.Form.cube c.args.block) =
    elim c.match-first.branch [
      | in-Some w ↦
          let l = w.in-Some.ensures.item in
          ap (λ s. rounds⁻¹ K D R (2 * (2 * (R / 2))) (g.F.Form.cube s)) w.s-is
          ∙ return K D R _ k.scheduled (2 * (R / 2)) (omega (arith, f.back_len, whole, l.3.0)) (slice_shift K D R (2 * (R / 2)) (omega arith)) _ _ (l.4 (omega arith) none ∙ left_over none _ _ f.back (2 * (R / 2)) (omega (arith, whole)))
          c.rotated-turned_key.ensures _ _ w.super_round_back-s.ensures
          ∙ ap (λ n. rounds⁻¹ K D R n (g.F.Form.cube c.args.block)) (let q : 2 * (2 * (R / 2) + 1) ≡ 2 * R = omega (arith, f.back_len, whole, l.3.0) in q)
      | in-None w ↦ ap₂ (λ n s. rounds⁻¹ K D R n (g.F.Form.cube s)) (let q : 2 * (2 * (R / 2)) ≡ 2 * R = omega (arith, f.back_len, whole, w.in-None.ensures.item.3) in q) w.s-is
    ] in
    g.met.F.Form.adds _ _ _ c.bitxor.ensures ∙ ap (add K) (ap (λ n. rounds⁻¹ K D R (2 * (2 * n)) (g.F.Form.cube c.loop-slice.s)) (sym e) ∙ c.loop-slice.invariant.undone ∙ first)

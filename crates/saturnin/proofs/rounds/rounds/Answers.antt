use Rattle.std.proofs.Common.{◌+◌, ◌*◌, ◌<◌, refl, ap, ◌∙◌, ap₂, arith}
use Rattle.saturnin.specs.Rounds.{rounds}
use Rattle.saturnin.proofs.Schedules.{long}
use Rattle.saturnin.proofs.TwoRounds.{slice_shift, sheet_shift}
use Rattle.saturnin.proofs.Turns.{none, in_pairs, left_over, turn}
use Rattle.saturnin.proofs.rounds.rounds.Goals as goal

pub loop-slice-init : goal.loop-slice-init
unfolding rounds
loop-slice-init g c = refl

pub loop-slice-preserved : goal.loop-slice-preserved
loop-slice-preserved g c =
    let k = c.args.constants in
    let whole = long k.of.separator k.of.super_rounds k.of.super_rounds k.rounds.now k.scheduled in
    let D = k.of.separator in
    let R = k.of.super_rounds in
    let K = g.F.Form.cube c.args.key in
    let i = c.loop-slice.slice-index in
    let s = g.F.Form.cube c.bitxor-s.result in
    let f = c.as_chunks.ensures in
    let w = in_pairs none _ _ f.front f.front_len in
    let l : 2 * i + 1 < R = omega (arith, f.front_len, whole) in
    turn K D R _ k.scheduled (2 * i + 1) l (sheet_shift K D R (2 * i + 1) (omega arith)) _ _ (w i 1 _ (omega arith) (omega arith) (omega arith)) refl _ _ s
    (turn K D R _ k.scheduled (2 * i) (omega arith) (slice_shift K D R (2 * i) (omega arith)) _ _ (w i 0 _ (omega arith) (omega arith) (omega arith)) c.rotated-turned_key.ensures _ _ s
    c.loop-slice.invariant c.super_round-s.ensures) c.super_round-s-in-loop-slice.ensures
    ∙ ap (λ n. rounds K D R n s) (omega arith)

pub returns-in-Some : goal.returns-in-Some
returns-in-Some g c =
    let k = c.args.constants in
    let whole = long k.of.separator k.of.super_rounds k.of.super_rounds k.rounds.now k.scheduled in
    let D = k.of.separator in
    let R = k.of.super_rounds in
    let K = g.F.Form.cube c.args.key in
    let i = c.loop-slice.slice-index in
    let f = c.as_chunks.ensures in
    let l = c.in-Some.ensures.item in
    turn K D R _ k.scheduled (2 * i) (omega (arith, f.front_len, f.back_len, whole, l.3.0)) (slice_shift K D R (2 * i) (omega arith)) _ _ (l.4 (omega arith) none ∙ left_over none _ _ f.back (2 * i) (omega (arith, f.front_len, whole)))
    c.rotated-turned_key.ensures _ _ _ c.loop-slice.invariant c.super_round-s-in-Some.ensures
    ∙ ap₂ (rounds K D R) (omega arith) (g.met.F.Form.adds _ _ _ c.bitxor-s.ensures)

pub returns-in_default : goal.returns-in_default
returns-in_default g c =
    let k = c.args.constants in
    let whole = long k.of.separator k.of.super_rounds k.of.super_rounds k.rounds.now k.scheduled in
    let f = c.as_chunks.ensures in
    c.loop-slice.invariant ∙ ap₂ (rounds (g.F.Form.cube c.args.key) k.of.separator k.of.super_rounds) (omega (arith, f.front_len, f.back_len, whole, c.in_default.ensures.item.3)) (g.met.F.Form.adds _ _ _ c.bitxor-s.ensures)

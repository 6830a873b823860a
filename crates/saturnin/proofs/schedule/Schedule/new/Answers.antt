use Rattle.std.proofs.Common.{ℕ, ◌<◌, ◌≢◌, length, refl, ap, ◌∙◌, ap₂, arith, length-set, get_or-set_other, get_or-set_same, below_more}
use Rattle.saturnin.specs.Rounds.{clocked}
use Rattle.saturnin.proofs.Clocks.{clocked_next}
use Rattle.octets.proofs.Tables.{is_table_of}
use Rattle.saturnin.proofs.schedule.Schedule.new.Goals as goal

pub loop-pair-init : goal.loop-pair-init
unfolding clocked
loop-pair-init c = (refl, refl, refl, λ k h. absurd (omega arith))

pub loop-pair-preserved : goal.loop-pair-preserved
loop-pair-preserved c =
    let l = c.loop-pair in
    let i = l.pair-index in
    let x = c.clock_sixteen.ensures ∙ clocked_next 0x1002d _ i _ l.invariant.0 in
    let y = c.clock_sixteen-in-loop-pair.ensures ∙ clocked_next 0x10053 _ i _ l.invariant.1 in (
      x,
      y,
      length-set l.pair-items i _ ∙ l.invariant.2,
      below_more _ _
          (λ k h. let ne : k ≢ i = omega arith in rw get_or-set_other (l.invariant.3 k h))
          (let lt : i < length l.pair-items = omega (arith, l.invariant.2) in rw get_or-set_same (ap₂ (λ (a b : ℕ). record { 0 = a; 1 = b }) x y)),
    )

pub invariant_of-result : goal.invariant_of-result
invariant_of-result c =
    let l = c.loop-pair in record {
      scheduled = record {
        first = is_table_of 31 _ (λ k. k.0) l.pair-items _ l.invariant.2 (λ i lt. ap (λ k. k.0) (l.invariant.3 i (omega arith)));
        second = is_table_of 31 _ (λ k. k.1) l.pair-items _ l.invariant.2 (λ i lt. ap (λ k. k.1) (l.invariant.3 i (omega arith)));
      };
    }

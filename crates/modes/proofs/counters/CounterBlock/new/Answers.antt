use Rattle.std.proofs.Common.{length, ◌≤◌, refl, ap, ◌∙◌, arith}
use Rattle.modes.specs.Counters.{counter_block}
use Rattle.modes.proofs.Counting.{counter_held}
use Rattle.modes.proofs.counters.CounterBlock.new.Goals as goal

pub returns : goal.returns
returns c =
    let same = c.in_ok-new.ensures in
    let short : length c.args.nonce.now ≤ 20 = omega (arith, ap length same) in (
      λ h. absurd (omega arith),
      λ h. (_, refl, c.counted.ensures ∙ ap (λ n. counter_block n c.args.counter) same, counter_held c.args.nonce.now (λ i. (c.type_inv.nonce i).fits) short c.args.counter (omega arith)),
    )

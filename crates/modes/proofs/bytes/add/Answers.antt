use Rattle.std.proofs.Common.{get_or, refl, ap, arith}
use lib.Bits.{bit_xor}
use Rattle.modes.proofs.Streams.{low_more, high_more}
use Rattle.modes.proofs.bytes.add.Goals as goal

pub loop-i-init : goal.loop-i-init
loop-i-init c = (λ k l. absurd (omega arith), λ k l. refl)

pub loop-i-preserved : goal.loop-i-preserved
loop-i-preserved c =
    let xs = c.args.part.now in
    let block = c.args.block.now in
    let i = c.loop-i.i in (
      low_more xs (λ k. bit_xor (get_or xs k 0) (get_or block k 0)) c.loop-i.part i _
          (ap (λ t. bit_xor t (get_or block i 0)) (c.loop-i.invariant.1 i (omega arith))) (omega (arith, c.loop-i-test.true, c.loop-i.auto)) c.loop-i.invariant.0,
      high_more xs (λ k. bit_xor (get_or xs k 0) (get_or block k 0)) c.loop-i.part i _ c.loop-i.invariant.1,
    )

pub returns : goal.returns
returns c = λ k l. c.loop-i.invariant.0 k (omega (arith, c.loop-i-test.false))

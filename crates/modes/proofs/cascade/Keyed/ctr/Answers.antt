use Rattle.std.proofs.Common.{◌≡◌, ◌-◌, ◌*◌, ◌<◌, ◌∙◌, length, refl, arith}
use Rattle.std.proofs.lemmas.List.{length-take, length-drop}
use Rattle.modes.proofs.Streams.{block_low, block_high, ctr-all}
use Rattle.modes.proofs.cascade.Keyed.ctr.Goals as goal

pub loop-i-init : goal.loop-i-init
loop-i-init g c = (λ k l m. absurd (omega arith), λ k l. refl)

pub loop-i-preserved : goal.loop-i-preserved
loop-i-preserved g c =
    let f = g.C.Cipher.forward c.args.self.now.cipher.now in
    let key = c.args.self.now.key.now in
    let nonce = c.args.self.now.nonce.bytes.now in
    let more : 32 * c.loop-i.i < length c.args.out.now = omega (arith, c.loop-i-test.true, c.div_ceil-i-end.ensures) in
    let size : length c.add.new.part ≡ c.min-end.result - 32 * c.loop-i.i = c.add.auto.part ∙ simp (length-take, length-drop) (omega (arith, c.loop-i.auto, c.min-end.ensures, more)) in (
      block_low f key nonce c.args.out.now c.loop-i.out c.add.new.part c.keystream_block.result c.loop-i.i c.min-end.result c.loop-i.auto.out c.min-end.ensures more c.keystream_block.ensures size c.add.ensures c.loop-i.invariant.0 c.loop-i.invariant.1,
      block_high f key nonce c.args.out.now c.loop-i.out c.add.new.part c.keystream_block.result c.loop-i.i c.min-end.result c.loop-i.auto.out c.min-end.ensures more c.keystream_block.ensures size c.add.ensures c.loop-i.invariant.0 c.loop-i.invariant.1,
    )

pub returns : goal.returns
returns g c =
    ctr-all _ _ _ _ _ c.loop-i.auto.out (λ k l. c.loop-i.invariant.0 k (omega (arith, l, c.loop-i-test.false, c.div_ceil-i-end.ensures)) l)

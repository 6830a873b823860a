use Rattle.std.proofs.Common.{ap, ◌∙◌, refl, sym}
use Rattle.std.proofs.lemmas.List.{take_all}
use Rattle.modes.specs.Bytes.{padded, full_blocks}
use Rattle.modes.specs.Chains.{links}
use Rattle.modes.proofs.Linking.{links_none}
use Rattle.test_chains.specs.Runs.{blocks, last_tail}
use Rattle.test_chains.proofs.Running.{block_value, block_tail, tail_blocks, tail_tail, closed}
use Rattle.test_chains.proofs.runs.run_text.Goals.{in-Block, in-Tail}
use Rattle.test_chains.proofs.runs.run_text.Goals as goal

pub loop-piece-init : goal.loop-piece-init
unfolding blocks last_tail
loop-piece-init g c = record { cipher = refl; value = links_none _ _ _ _ _; tail = c.requires }

pub loop-piece-preserved : goal.loop-piece-preserved
loop-piece-preserved g c =
    let ps = c.args.pieces.now in
    let chain = c.args.chain in
    let f = g.C.Cipher.forward chain.cipher.now in
    let i = c.loop-piece.piece-index in
    let before = c.loop-piece.invariant in
    let p = c.piece-item.result in
    elim c.match-piece.branch [
      | in-Block w ↦
          let h = w.text_block.ensures in
          let s = w.deref.ensures.value in
          record {
            cipher = ap (λ k. k.cipher.now) w.chain-is ∙ h.cipher ∙ before.cipher;
            value =
                ap (λ k. k.value) w.chain-is
                ∙ block_value ps i p w.in-Block.bytes w.deref.result.now c.loop-piece-test.true c.piece-item.is s w.in-Block.is f 4 10 chain.value
                _ _ _ _ (ap g.C.Cipher.forward before.cipher) before.value h.value;
            tail =
                ap (λ k. k.tail) w.chain-is ∙ h.tail ∙ before.tail
                ∙ ap (padded 32) (sym (block_tail ps i p w.in-Block.bytes w.deref.result.now c.loop-piece-test.true c.piece-item.is s w.in-Block.is));
          }
      | in-Tail w ↦
          let h = w.text_tail.ensures in
          let s = w.deref-in-Tail.ensures.value in
          record {
            cipher = ap (λ k. k.cipher.now) w.chain-is ∙ h.cipher ∙ before.cipher;
            value =
                ap (λ k. k.value) w.chain-is ∙ h.value ∙ before.value
                ∙ ap (λ b. links f 4 10 chain.value b (full_blocks b)) (sym (tail_blocks ps i p w.in-Tail.bytes w.deref-in-Tail.result.now c.loop-piece-test.true c.piece-item.is s w.in-Tail.is));
            tail =
                ap (λ k. k.tail) w.chain-is
                ∙ tail_tail ps i p w.in-Tail.bytes w.deref-in-Tail.result.now c.loop-piece-test.true c.piece-item.is s w.in-Tail.is _ _ _ before.tail h.tail;
          }
    ]

pub returns : goal.returns
returns g c =
    let ps = c.args.pieces.now in
    let chain = c.args.chain in
    let before = c.loop-piece.invariant in
    c.close.ensures
    ∙ closed (g.C.Cipher.forward chain.cipher.now) _ 4 5 10 chain.value _ _ ps _ (ap g.C.Cipher.forward before.cipher)
    (take_all c.loop-piece.piece-index ps c.loop-piece-test.false) before.value before.tail

use Rattle.std.proofs.Common.{◌≡◌, ◌/◌, ◌<◌, length, ap, ap₂, ◌∙◌, refl, arith}
use Rattle.std.proofs.lemmas.Grind.{common_steps}
use Rattle.modes.specs.Bytes.{full_blocks}
use Rattle.modes.specs.Chains.{link, links}
use Rattle.modes.proofs.Linking.{links_none}
use Rattle.test_chains.proofs.Handing.{handed_block, handed_tail}
use Rattle.test_chains.proofs.texts.hand_text.Goals as goal

pub loop-block-init : goal.loop-block-init
loop-block-init g c = record { cipher = refl; value = links_none _ _ _ _ _ }

pub loop-block-preserved : goal.loop-block-preserved
loop-block-preserved g c =
    let i = c.loop-block.block-index in
    let bytes = c.args.bytes.now in
    let chain = c.args.chain in
    let h = c.text_block.ensures in
    let within : i < length bytes / 32 = grind (arith, common_steps, c.as_chunks.ensures.front_len) in
    record {
      cipher = h.cipher ∙ c.loop-block.invariant.cipher;
      value =
          handed_block bytes (g.C.Cipher.forward chain.cipher.now) 4 10 chain.value _ _ _ i _ _ c.as_chunks.ensures.front within
          (ap g.C.Cipher.forward c.loop-block.invariant.cipher) c.loop-block.invariant.value h.value;
    }

pub returns : goal.returns
returns g c =
    let bytes = c.args.bytes.now in
    let chain = c.args.chain in
    let f = g.C.Cipher.forward chain.cipher.now in
    let h = c.text_tail.ensures in
    let before = c.loop-block.invariant in
    let all : c.loop-block.block-index ≡ full_blocks bytes = omega (arith, c.as_chunks.ensures.front_len) in
    c.close.ensures
    ∙ ap (λ k. link k 5 10 c.text_tail.new.self.value c.text_tail.new.self.tail) (ap g.C.Cipher.forward (h.cipher ∙ before.cipher))
    ∙ ap₂ (link f 5 10) (h.value ∙ before.value ∙ ap (links f 4 10 chain.value bytes) all)
    (handed_tail bytes _ _ _ _ c.as_chunks.ensures.back h.tail)

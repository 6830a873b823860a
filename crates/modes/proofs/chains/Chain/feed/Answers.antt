use Rattle.std.proofs.Common.{◌≡◌, ◌*◌, ◌/◌, ◌<◌, [], length, drop, get_or, ap, ◌∙◌, refl, arith}
use Rattle.std.proofs.lemmas.Grind.{common_steps}
use Rattle.modes.specs.Bytes.{padded, full_blocks, tail_of}
use Rattle.modes.specs.Chains.{links}
use Rattle.modes.proofs.Linking.{links_none, links_step, block_of}
use Rattle.modes.proofs.chains.Chain.feed.Goals as goal

pub loop-block-init : goal.loop-block-init
loop-block-init g c = record { cipher = refl; value = links_none _ _ _ _ _ }

pub loop-block-preserved : goal.loop-block-preserved
loop-block-preserved g c =
    let i = c.loop-block.block-index in
    let within : i < length c.args.bytes.now / 32 = grind (arith, common_steps, c.as_chunks.ensures.front_len) in
    record {
      cipher = c.take.ensures.cipher ∙ c.loop-block.invariant.cipher;
      value =
          c.take.ensures.value ∙ links_step _ _ _ _ c.args.bytes.now _ _ _ _ _ i
          (ap g.C.Cipher.forward c.loop-block.invariant.cipher) refl refl c.loop-block.invariant.value
          (ap (λ t. get_or t i []) c.as_chunks.ensures.front ∙ block_of (length c.args.bytes.now / 32) c.args.bytes.now i [] within);
    }

pub returns : goal.returns
unfolding tail_of
returns g c =
    let f = g.C.Cipher.forward c.args.self.now.cipher.now in
    let all : c.loop-block.block-index ≡ full_blocks c.args.bytes.now = omega (arith, c.as_chunks.ensures.front_len) in
    let turned : length c.args.bytes.now / 32 * 32 ≡ 32 * (length c.args.bytes.now / 32) = omega arith in
    record {
      cipher = c.loop-block.invariant.cipher;
      value = c.loop-block.invariant.value ∙ ap (links f g.row.BLOCKS g.row.SUPER_ROUNDS c.args.self.now.value c.args.bytes.now) all;
      tail = c.pad-self.ensures ∙ ap (padded 32) (c.as_chunks.ensures.back ∙ ap (λ n. drop n c.args.bytes.now) turned);
    }

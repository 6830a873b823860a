use Rattle.std.proofs.Common.{◌≡◌}
use Rattle.modes.specs.Chains.{links}
use Rattle.test_chains.proofs.texts.hand_data.Given as goal

abbrev pub invariant-loop-block : goal.invariant-loop-block
invariant-loop-block g l = record {
  cipher : l.chain.cipher.now ≡ l.initial.chain.cipher.now;
  value :
      l.chain.value
      ≡ links (g.C.Cipher.forward l.initial.chain.cipher.now) 2 10 l.initial.chain.value l.bytes l.block-index;
}

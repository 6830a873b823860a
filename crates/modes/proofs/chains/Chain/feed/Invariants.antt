use Rattle.std.proofs.Common.{◌≡◌}
use Rattle.modes.specs.Chains.{links}
use Rattle.modes.proofs.chains.Chain.feed.Given as goal

abbrev pub invariant-loop-block : goal.invariant-loop-block
invariant-loop-block g l = record {
  cipher : l.self.cipher.now ≡ l.initial.self.cipher.now;
  value : l.self.value ≡ links (g.C.Cipher.forward l.initial.self.cipher.now) g.row.BLOCKS g.row.SUPER_ROUNDS l.initial.self.value l.bytes l.block-index;
}

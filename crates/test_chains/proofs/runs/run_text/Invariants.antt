use Rattle.std.proofs.Common.{◌≡◌, [], take}
use Rattle.modes.specs.Bytes.{padded, full_blocks}
use Rattle.modes.specs.Chains.{links}
use Rattle.test_chains.specs.Runs.{blocks, last_tail}
use Rattle.test_chains.proofs.runs.run_text.Given as goal

abbrev pub invariant-loop-piece : goal.invariant-loop-piece
invariant-loop-piece g l = record {
  cipher : l.chain.cipher.now ≡ l.initial.chain.cipher.now;
  value :
      l.chain.value
      ≡ links (g.C.Cipher.forward l.initial.chain.cipher.now) 4 10 l.initial.chain.value (blocks (take l.piece-index l.pieces))
      (full_blocks (blocks (take l.piece-index l.pieces)));
  tail : l.chain.tail ≡ padded 32 (last_tail [] (take l.piece-index l.pieces));
}

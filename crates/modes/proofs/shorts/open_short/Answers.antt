use Rattle.modes.proofs.Shortly.{short_exactly}
use Rattle.modes.proofs.shorts.open_short.Goals as goal

pub returns : goal.returns
returns g c = record {
  opens = c.opened.ensures;
  exactly =
      short_exactly _ _ (g.met.C.TwoWayCipher.two_way c.args.cipher.now) c.args.key.now c.args.nonce.now c.args.block.now
      (λ i. (c.type_inv.key i).fits) (λ i. (c.type_inv.nonce i).fits) (λ i. (c.type_inv.block i).fits) c.args.out.now c.opened.result c.opened.new.out c.opened.ensures;
}

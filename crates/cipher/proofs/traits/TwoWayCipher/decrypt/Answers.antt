use Rattle.std.proofs.Common.{◌∙◌}
use Rattle.cipher.proofs.traits.TwoWayCipher.decrypt.Goals as goal

pub returns-clause-only : goal.returns-clause-only
returns-clause-only g c e =
    let given = c.in_ok-key.ensures in
    let turned = c.copy_from_slice.ensures.after ∙ c.decrypt_block.ensures in
    rw (turned, given.1, given.2, given.3, given.4)
    (g.met.Self.TwoWayCipher.two_way c.args.self.now _ _ _ _ given.0)

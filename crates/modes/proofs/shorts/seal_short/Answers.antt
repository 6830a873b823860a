use Rattle.std.proofs.Common.{◌≡◌, ◌++◌, refl, ap, ◌∙◌, rules, arith}
use Rattle.modes.specs.Bytes.{padded}
use Rattle.modes.specs.Short.{short}
use Rattle.modes.proofs.shorts.seal_short.Goals as goal

pub returns : goal.returns
unfolding short
returns g c =
    let key : c.in-Ok-Ok.key.now ≡ c.args.key.now = search rules in
    let nonce : c.in-Ok-Ok.nonce.now ≡ c.args.nonce.now = search rules in
    let sealed : c.copy_from_slice.new.self ≡ g.C.Cipher.forward c.args.cipher.now c.args.key.now 6 10 c.short_block-plain.result = cc (c.copy_from_slice.ensures.after, c.encrypt_block.ensures, key) in
    (λ h. absurd (h (search rules, search rules, search rules)), λ n. (λ h. absurd (omega arith), λ m. (refl, sealed ∙ ap (g.C.Cipher.forward c.args.cipher.now c.args.key.now 6 10) (c.short_block-plain.ensures ∙ ap (λ t. t ++ padded 16 c.args.message.now) nonce))))

use Rattle.std.proofs.Common.{◌≡◌, ◌-◌, ◌++◌, length, take, drop, sym, ap, ◌∙◌, rules, arith}
use Rattle.std.proofs.lemmas.List.{length-take, length-drop}
use Rattle.octets.specs.Octets.{zeros}
use Rattle.modes.specs.Bytes.{padded}
use Rattle.modes.proofs.Paddings.{message_put}
use Rattle.modes.proofs.Refusing.{no_message, a_message}
use Rattle.modes.proofs.shorts.opened.Goals as goal

pub returns-in_default-message_length : goal.returns-in_default-message_length
returns-in_default-message_length g c =
    let key : c.in-Ok-Ok-Ok.key.now ≡ c.args.key.now = search rules in
    let block : c.in-Ok-Ok-Ok.block.now ≡ c.args.block.now = search rules in
    let nonce : c.in-Ok-Ok-Ok.nonce.now ≡ c.args.nonce.now = search rules in
    let p : c.decrypt_block-plain.result ≡ g.C.TwoWayCipher.back c.args.cipher.now c.args.key.now 6 10 c.args.block.now = cc (c.decrypt_block-plain.ensures, key, block) in
    no_message (g.C.TwoWayCipher.back c.args.cipher.now) c.args.key.now c.args.nonce.now c.args.block.now c.args.out.now (search rules) _ _ (search rules) (search rules)
    (λ m h e. c.in_default-message_length.ensures m h (p ∙ e ∙ ap (λ t. t ++ padded 16 m) (sym nonce)))

pub returns : goal.returns
returns g c =
    let key : c.in-Ok-Ok-Ok.key.now ≡ c.args.key.now = search rules in
    let block : c.in-Ok-Ok-Ok.block.now ≡ c.args.block.now = search rules in
    let nonce : c.in-Ok-Ok-Ok.nonce.now ≡ c.args.nonce.now = search rules in
    let plain = c.decrypt_block-plain.result in
    let n = c.in-Some.n in
    let p : plain ≡ g.C.TwoWayCipher.back c.args.cipher.now c.args.key.now 6 10 c.args.block.now = cc (c.decrypt_block-plain.ensures, key, block) in
    let long : length plain ≡ 32 = search rules in
    let few = c.in-Some.ensures.0 in
    let fifteen : length c.args.out.now ≡ 15 = search rules in
    let zero : c.fill.new.self ≡ zeros (length c.args.out.now) = search rules in
    let wiped : c.fill.new.self ≡ zeros 15 = zero ∙ ap zeros fifteen in
    let m = take n (drop 16 plain) in
    let l : length m ≡ n = simp (length-take, length-drop) (omega arith) in
    a_message (g.C.TwoWayCipher.back c.args.cipher.now) c.args.key.now c.args.nonce.now c.args.block.now c.args.out.now (search rules) m _ n l few (sym p ∙ c.in-Some.ensures.1 ∙ ap (λ t. t ++ padded 16 m) nonce)
    (message_put plain c.copy_from_slice.new.self c.fill.new.self n few c.copy_from_slice.ensures.after wiped ∙ ap (λ k. m ++ zeros (15 - k)) (sym l))

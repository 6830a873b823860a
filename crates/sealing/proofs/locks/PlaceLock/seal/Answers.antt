use Rattle.std.proofs.Common.{◌≡◌, ◌≤◌, length, take, drop, refl, ap, ◌∙◌, arith, rules}
use Rattle.std.proofs.lemmas.List.{length-append}
use Rattle.octets.specs.Octets.{zeros, big_endian}
use Rattle.octets.proofs.Numbers.{length-big_endian}
use Rattle.octets.proofs.Writes.{put_is}
use Rattle.modes.proofs.Streams.{length-ctr}
use Rattle.records.specs.Sheets.{head_of, associated}
use Rattle.records.proofs.Layouts.{part_at, finished}
use Rattle.sealing.proofs.Laying.{middle_long, as_sheet}
use Rattle.sealing.proofs.locks.PlaceLock.seal.Goals as goal

pub returns : goal.returns
returns g c =
    let s = c.args.self.now in
    let f = g.C.Cipher.forward s.cipher.now in
    let key = s.key.now in
    let nonce = c.args.nonce.now in
    let message = c.args.message.now in
    let label = c.args.label.now in
    let n = length message in
    let head = head_of label message in
    let few : n ≤ 928 = omega arith in
    let key-long : length key ≡ 32 = search rules in
    let long : length c.begin.new.bytes ≡ 1024 = search rules in
    let tag-long : length c.seal.new.tag ≡ 32 = search rules in
    let head-long : length head ≡ 48 = length-append label (big_endian 2 n) ∙ omega (arith, c.told-label, length-big_endian 2 n) in
    let data-long : length c.associated-associated.result ≡ 52 = search rules in
    let head_is : c.head-head.result.now ≡ head = c.head-head.ensures ∙ ap (λ r. take 48 (drop 16 r)) c.begin.ensures ∙ part_at nonce head (zeros 960) 16 48 c.told-nonce head-long in
    let sealed = (c.seal.ensures.1 (λ k. k (key-long, middle_long 64 n c.begin.new.bytes (omega (arith, long)), refl))).1 (λ k. k (omega (arith, c.told-nonce), omega (arith, data-long), omega arith)) in
    let text-long : length c.seal.new.out ≡ n = ap length sealed.1 ∙ length-ctr f key nonce message in
    let all = finished nonce head c.seal.new.out c.seal.new.tag c.begin.new.bytes _ _ c.told-nonce head-long (omega (arith, text-long)) tag-long c.begin.ensures
    (put_is 64 n c.begin.new.bytes c.seal.new.out c.seal.new.out refl text-long) (put_is 992 32 _ _ c.seal.new.tag c.copy_from_slice.ensures.after tag-long) in (
      λ h. absurd (omega arith),
      λ h. (refl, all ∙ as_sheet f key nonce label message c.seal.new.out c.associated-associated.result c.seal.new.tag s.place sealed.1 (c.associated-associated.ensures ∙ ap (associated s.place) head_is) sealed.2),
    )

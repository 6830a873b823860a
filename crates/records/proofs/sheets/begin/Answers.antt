use Rattle.std.proofs.Common.{◌≡◌, refl, ap, ◌∙◌}
use Rattle.octets.specs.Octets.{zeros, big_endian}
use Rattle.octets.proofs.Writes.{put_is}
use Rattle.records.proofs.Layouts.{begun}
use Rattle.records.proofs.sheets.begin.Goals as goal

pub returns : goal.returns
unfolding big_endian
returns c =
    let size : c.copy_from_slice-3.new.self ≡ big_endian 2 c.args.length = c.copy_from_slice-3.ensures.after ∙ c.to_be_bytes.ensures in
    let blank : c.fill.new.self ≡ zeros 1024 = c.fill.ensures.after (λ y h. h) ∙ ap zeros c.told-bytes in
    begun c.args.nonce.now c.args.label.now (big_endian 2 c.args.length) c.fill.new.self _ _ _ c.told-nonce c.told-label refl blank
    (put_is 0 16 _ _ _ c.copy_from_slice.ensures.after c.told-nonce)
    (put_is 16 46 _ _ _ c.copy_from_slice-2.ensures.after c.told-label)
    (put_is 62 2 _ _ _ size refl)

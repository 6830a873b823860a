use Rattle.std.proofs.Common.{◌≡◌, ◌≤◌, ◌++◌, length, take, refl, ◌∙◌, ap₂, arith, rules}
use Rattle.std.proofs.lemmas.List.{length-take}
use Rattle.locked.specs.Locked.{magic, locked}
use Rattle.locked.proofs.Parts.{put_end, end_long, laid_out}
use Rattle.locked.proofs.lock.Goals as goal

pub returns : goal.returns
unfolding locked
returns g c =
    let f = g.C.Cipher.forward c.args.cipher.now in
    let key = c.args.key.now in
    let nonce = c.args.nonce.now in
    let file = c.args.file.now in
    let message = c.args.message.now in
    let ok = c.in_ok-check_lock.ensures in
    let long : 56 ≤ length file = omega (arith, ok.2) in
    let head : length (take 56 file) ≡ 56 = length-take 56 file ∙ omega arith in
    let d = (c.seal.ensures.1 (λ n. n (ok.0, end_long 56 (length message) file ok.2, refl))).1 (λ n. n (omega (arith, ok.1), omega arith, ok.3)) in
    let tag-long : length c.seal.new.tag ≡ 32 = search rules in (
      λ h. absurd (h (ok.0, ok.1, ok.2)),
      λ n. (
        λ h. absurd (omega (arith, ok.3)),
        λ m. (
          refl,
          laid_out magic nonce c.seal.new.tag c.seal.new.out (take 56 file) _ _ _ _ refl ok.1 tag-long head (put_end 56 file c.seal.new.out long)
              (c.paste.ensures.fitting (search rules)) (c.paste-2.ensures.fitting (search rules)) (c.paste-3.ensures.fitting (search rules))
              ∙ ap₂ (λ s t. magic ++ (nonce ++ (s ++ t))) d.2 d.1,
        ),
      ),
    )

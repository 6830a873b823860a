use Rattle.std.proofs.Common.{◌≡◌, not, take, Err, sym, refl, ap, ◌∙◌, subst, inl, inr}
use Rattle.std.specs.Str.{bytes_eq}
use Rattle.std.proofs.lemmas.Slice.Eq.{bytes_eq-Decides}
use Rattle.std.proofs.lemmas.List.{take_rest}
use Rattle.std.proofs.lemmas.Bool.{true≢false, cases_Bool}
use Rattle.modes.specs.Cascade.{CascadeOpens}
use Rattle.faults.proofs.Results.{handed_on}
use Rattle.locked.specs.Locked.{magic}
use Rattle.locked.proofs.Holding.{nonce_of, tag_of, other_word, this_word}
use Rattle.locked.proofs.unlock.Goals as goal

pub returns-in_err-check_lock : goal.returns-in_err-check_lock
returns-in_err-check_lock g c =
    let e = handed_on _ c.from_residual.result c.from_residual.ensures.1 in
    let b = c.in_err-check_lock.ensures in (
      λ h. (e ∙ ap Err (b.0 (λ q. h (q.0, q.2))), refl),
      λ n. let more = b.1 (λ q. n (λ k. q (k.0, refl, k.1))) in (λ h. (e ∙ ap Err (more.0 h), refl), λ m. absurd (more.1 m)),
    )

pub returns-then-ne : goal.returns-then-ne
returns-then-ne g c =
    let ok = c.in_ok-check_lock.ensures in
    let f = g.C.Cipher.forward c.args.cipher.now in
    let d = bytes_eq-Decides (take 4 c.args.file.now) magic in
    other_word f (g.met.C.Cipher.gives_blocks c.args.cipher.now) c.args.key.now c.args.file.now c.args.out.now
    (λ i. (c.type_inv.key i).fits) (λ i. (c.type_inv.file i).fits) _ c.fill.new.self (λ i. (c.type_inv.out i).fits) ok.0 ok.2 ok.3
    (λ q. true≢false (sym c.if-ne.true ∙ c.ne.ensures ∙ ap not (d.1 q))) (ap Err c.into.ensures) (c.fill.ensures.after (λ y e. e))

pub returns : goal.returns
returns g c =
    let ok = c.in_ok-check_lock.ensures in
    let f = g.C.Cipher.forward c.args.cipher.now in
    let key = c.args.key.now in
    let file = c.args.file.now in
    let d = bytes_eq-Decides (take 4 c.args.file.now) magic in
    let word : take 4 file ≡ magic = elim (cases_Bool (bytes_eq (take 4 file) magic)) [
      | inl y ↦ d.0 y
      | inr n ↦ absurd (true≢false (sym (c.ne.ensures ∙ ap not n) ∙ c.if-ne.false))
    ] in
    this_word f (g.met.C.Cipher.gives_blocks c.args.cipher.now) key file c.args.out.now
    (λ i. (c.type_inv.key i).fits) (λ i. (c.type_inv.file i).fits) _ c.open.new.out (λ i. (c.type_inv.out i).fits) ok.0 ok.2 ok.3
    word (subst (λ t. CascadeOpens f key (nonce_of f key file) magic t (tag_of f key file) c.args.out.now c.open.result c.open.new.out) (take_rest file 56) c.open.ensures.opens)

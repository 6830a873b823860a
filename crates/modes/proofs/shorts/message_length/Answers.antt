use Rattle.std.proofs.Common.{◌≡◌, not, take, sym, ap, ◌∙◌, inl, inr}
use Rattle.std.specs.Str.{bytes_eq}
use Rattle.std.proofs.lemmas.Slice.Eq.{bytes_eq-Decides}
use Rattle.std.proofs.lemmas.Bool.{true≢false, cases_Bool}
use Rattle.modes.proofs.Paddings.{other_nonce, this_nonce}
use Rattle.modes.proofs.shorts.message_length.Goals as goal

pub returns-then-ne : goal.returns-then-ne
returns-then-ne c =
    let d = bytes_eq-Decides c.args.nonce.now (take 16 c.args.plain.now) in
    other_nonce c.args.nonce.now c.args.plain.now c.told-nonce c.told-plain (λ q. true≢false (sym c.if-ne.true ∙ c.ne.ensures ∙ ap not (d.1 q)))

pub returns : goal.returns
returns c =
    let d = bytes_eq-Decides c.args.nonce.now (take 16 c.args.plain.now) in
    let e : c.args.nonce.now ≡ take 16 c.args.plain.now = elim (cases_Bool (bytes_eq c.args.nonce.now (take 16 c.args.plain.now))) [
      | inl y ↦ d.0 y
      | inr n ↦ absurd (true≢false (sym (c.ne.ensures ∙ ap not n) ∙ c.if-ne.false))
    ] in
    this_nonce c.args.nonce.now c.args.plain.now c.told-nonce c.told-plain e c.padding.result c.padding.ensures

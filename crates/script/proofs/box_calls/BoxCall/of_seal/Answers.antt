use Rattle.std.proofs.Common.{refl, sym, ◌∙◌, ap, subst}
use Rattle.script.specs.Messages.{SpellsMessage}
use Rattle.script.specs.Words.{first_word, after_word, Numeral}
use Rattle.script.proofs.Unspelt.{sealed}
use Rattle.script.proofs.box_calls.BoxCall.of_seal.Goals as goal

pub returns-in_err-place : goal.returns-in_err-place
returns-in_err-place c =
    rw c.from_residual-in_err-place.ensures (λ call h.
    let place = (sealed c.args.rest.now call h).0 in
    c.in_err-place.ensures place.0 (subst (λ t. Numeral 32 (first_word t) place.0) (sym c.in_ok-number.ensures.1) place.1))

pub returns-in_err-of : goal.returns-in_err-of
returns-in_err-of c =
    let from_label = c.in_ok-place.ensures.1 ∙ ap after_word c.in_ok-number.ensures.1 in
    rw c.from_residual-in_err-of.ensures (λ call h.
    let message = (sealed c.args.rest.now call h).1 in
    c.in_err-of.ensures message.0 (subst (λ t. SpellsMessage t message.0) (sym (c.split_word.ensures.rest ∙ ap after_word from_label)) message.1))

pub returns : goal.returns
returns c =
    let from_place = c.in_ok-number.ensures.1 in
    let from_label = c.in_ok-place.ensures.1 ∙ ap after_word from_place in (
      refl,
      c.in_ok-number.ensures.0,
      subst (λ t. Numeral 32 (first_word t) c.in_ok-place.place) from_place c.in_ok-place.ensures.0,
      sym (c.split_word.ensures.word ∙ ap first_word from_label),
      subst (λ t. SpellsMessage t c.in_ok-of.field-0) (c.split_word.ensures.rest ∙ ap after_word from_label) c.in_ok-of.ensures,
    )

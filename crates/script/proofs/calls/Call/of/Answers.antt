use Rattle.std.proofs.Common.{sym, ◌∙◌, ap, subst}
use Rattle.script.specs.Spelling.{SpellsAfter}
use Rattle.script.specs.Words.{first_word, after_word, without_blanks, IsText, Parses}
use Rattle.script.proofs.Unspelt.{name_is_text}
use Rattle.script.proofs.calls.Call.of.Goals as goal

pub returns-in_err-text_of : goal.returns-in_err-text_of
returns-in_err-text_of c =
    let name = c.split_word.ensures.word ∙ ap first_word c.without_blanks.ensures in
    rw c.from_residual.ensures (λ call h. c.in_err-text_of.ensures (subst IsText (sym name) (name_is_text _ (after_word (without_blanks c.args.line.now)) call h)))

pub returns : goal.returns
returns c =
    let name = c.in_ok-text_of.ensures.0 ∙ c.split_word.ensures.word ∙ ap first_word c.without_blanks.ensures in
    let rest = c.split_word.ensures.rest ∙ ap after_word c.without_blanks.ensures in
    subst (λ n. Parses (SpellsAfter n (after_word (without_blanks c.args.line.now))) c.named.result) name
    (subst (λ r. Parses (SpellsAfter c.in_ok-text_of.field-0.now r) c.named.result) rest c.named.ensures)

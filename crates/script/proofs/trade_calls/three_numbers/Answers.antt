use Rattle.std.proofs.Common.{sym, ◌∙◌, ap, subst}
use Rattle.script.specs.Words.{after_word, OnlyNumeral}
use Rattle.script.proofs.trade_calls.three_numbers.Goals as goal

pub returns-in_err-only_u16 : goal.returns-in_err-only_u16
returns-in_err-only_u16 c =
    let from_last = c.in_ok-design.ensures.1 ∙ ap after_word c.in_ok-number.ensures.1 in
    rw c.from_residual-in_err-only_u16.ensures (λ number design last h. c.in_err-only_u16.ensures last (subst (λ t. OnlyNumeral 16 t last) (sym from_last) h.2))

use Rattle.std.proofs.Common.{◌≡◌, Option, None, sym, ◌∙◌, ap, subst, arith}
use Rattle.std.specs.Prelude.{IsSome, ◌↔◌}
use Rattle.script.specs.Names.{NamesCall}
use Rattle.script.specs.Spelling.{name_of}
use Rattle.script.specs.Words.{first_word, IsText}
use Rattle.script.proofs.Named.{called_is_text}
use Rattle.script.proofs.usage.usage_of.Goals as goal

nothing : {A : Type 0} (named : Type 0) (o : Option A) → o ≡ None → ¬ named → IsSome o ↔ named
nothing named o e none = rw e ((λ h. grind arith), (λ h. absurd (none h)))

pub returns-in_err-text_of-clause-named : goal.returns-in_err-text_of-clause-named
returns-in_err-text_of-clause-named c =
    let name = c.split_word.ensures.word ∙ ap first_word c.without_blanks.ensures in
    nothing (NamesCall c.args.line.now) c.from_residual.result c.from_residual.ensures
    (λ h. c.in_err-text_of.ensures (subst IsText (sym name) (called_is_text (name_of c.args.line.now) h)))

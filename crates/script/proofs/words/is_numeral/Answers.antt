use Rattle.std.proofs.Common.{length, sym, ◌∙◌, arith}
use Rattle.std.proofs.lemmas.Bool.{eqb-false}
use Rattle.script.proofs.Texts.{tells_numeral}
use Rattle.script.proofs.words.is_numeral.Goals as goal

pub returns-then-not-is_empty : goal.returns-then-not-is_empty
returns-then-not-is_empty c =
    tells_numeral c.args.word.now _ (omega (arith, eqb-false (length c.args.word.now) 0 (sym c.is_empty.ensures ∙ c.if-not-is_empty.true))) c.all_digits.ensures

use Rattle.script.proofs.Texts.{numeral_is_text}
use Rattle.script.proofs.words.u64_in.Goals as goal

pub returns-in_err-text_of : goal.returns-in_err-text_of
returns-in_err-text_of c = rw c.from_residual.ensures (λ n h. c.in_err-text_of.ensures (numeral_is_text 64 c.args.word.now n h))

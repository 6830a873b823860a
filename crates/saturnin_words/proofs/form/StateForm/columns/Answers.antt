use Rattle.std.proofs.Common.{ap, ◌∙◌, ap₂}
use lib.Bits.{bit_xor}
use Rattle.saturnin.specs.Layers.{α}
use Rattle.saturnin_words.specs.Words.{quad}
use Rattle.saturnin_words.proofs.Columns.{mixed}
use Rattle.saturnin_words.proofs.form.StateForm.columns.Goals as goal

pub returns : goal.returns
returns c =
    mixed _ c.args.self (quad c.bitxor-even.result) (quad c.bitxor-odd.result)
    c.bitxor-even.ensures
    (λ p h. c.bitxor-odd.ensures p ∙ ap₂ bit_xor (c.alpha.ensures p) (c.swapped.ensures p h))
    (λ p. c.bitxor-even-2.ensures p ∙ ap (λ v. bit_xor v (quad c.bitxor-odd.result p)) (c.alpha-3.ensures p ∙ ap α (c.alpha-2.ensures p)))
    (λ p h. c.bitxor-odd-2.ensures p ∙ ap (bit_xor (quad c.bitxor-odd.result p)) (c.swapped-2.ensures p h))

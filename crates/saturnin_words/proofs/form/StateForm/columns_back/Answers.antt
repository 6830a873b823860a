use Rattle.std.proofs.Common.{ap, ◌∙◌}
use lib.Bits.{bit_xor}
use Rattle.saturnin.specs.Back.{α⁻¹}
use Rattle.saturnin_words.specs.Words.{quad}
use Rattle.saturnin_words.proofs.Columns.{unmixed}
use Rattle.saturnin_words.proofs.form.StateForm.columns_back.Goals as goal

pub returns : goal.returns
returns c =
    unmixed _ c.args.self (quad c.bitxor-odd.result) (quad c.alpha_back-even.result)
    (λ p h. c.bitxor-odd.ensures p ∙ ap (bit_xor (quad c.args.self.odd p)) (c.swapped.ensures p h))
    (λ p. c.alpha_back-even.ensures p ∙ ap α⁻¹ (c.alpha_back.ensures p ∙ ap α⁻¹ (c.bitxor.ensures p)))
    (λ p h. c.alpha_back-odd.ensures p ∙ ap α⁻¹ (c.bitxor-2.ensures p ∙ ap (bit_xor (quad c.bitxor-odd.result p)) (c.swapped-2.ensures p h)))
    c.bitxor-3.ensures

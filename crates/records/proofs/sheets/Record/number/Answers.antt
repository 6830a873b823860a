use Rattle.std.proofs.Common.{◌≡◌, length, ap, ◌∙◌}
use Rattle.octets.specs.Octets.{spelt}
use Rattle.octets.proofs.Bytewise.{spelt_eight}
use Rattle.records.proofs.sheets.Record.number.Goals as goal

pub returns : goal.returns
returns c =
    let long : length c.part.result.now ≡ 8 = c.part.ensures.long in
    c.from_be_bytes.ensures ∙ spelt_eight c.part.result.now long ∙ ap (λ bs. spelt bs 0) c.part.ensures.part

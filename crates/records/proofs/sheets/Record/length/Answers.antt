use Rattle.std.proofs.Common.{◌≡◌, length, ap, ◌∙◌}
use Rattle.octets.specs.Octets.{spelt}
use Rattle.records.proofs.Layouts.{spelt_two}
use Rattle.records.proofs.sheets.Record.length.Goals as goal

pub returns : goal.returns
returns c =
    let long : length c.part.result.now ≡ 2 = c.part.ensures.long in
    c.from_be_bytes.ensures ∙ spelt_two c.part.result.now long ∙ ap (λ bs. spelt bs 0) c.part.ensures.part

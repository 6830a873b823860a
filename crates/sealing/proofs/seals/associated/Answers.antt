use Rattle.std.proofs.Common.{◌++◌, length, ap, ◌∙◌, arith}
use Rattle.octets.proofs.Bytewise.{four_bytes}
use Rattle.sealing.proofs.seals.associated.Goals as goal

pub returns : goal.returns
returns c =
    let k = c.to_be_bytes.ensures in
    c.joined.ensures.fitting (omega (arith, c.told-head, ap length k)) ∙ ap (λ t. t ++ c.args.head.now) (k ∙ four_bytes c.args.place)

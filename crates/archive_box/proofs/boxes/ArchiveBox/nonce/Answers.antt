use Rattle.std.proofs.Common.{◌≡◌, ◌++◌, length, ap, ◌∙◌, arith, rules}
use Rattle.octets.proofs.Bytewise.{eight_bytes}
use Rattle.archive_box.proofs.boxes.ArchiveBox.nonce.Goals as goal

pub returns : goal.returns
returns g c =
    let k = c.to_be_bytes.ensures in
    let long : length c.args.self.now.sign ≡ 8 = search rules in
    c.joined.ensures.fitting (omega (arith, long, ap length k)) ∙ ap (λ t. c.args.self.now.sign ++ t) (k ∙ eight_bytes c.args.number)

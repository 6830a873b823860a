use Rattle.std.proofs.Common.{◌≡◌, length, drop, ◌∙◌, arith}
use Rattle.std.proofs.lemmas.List.{take_all, length-drop}
use Rattle.records.proofs.slips.Slip.block.Goals as goal

pub returns : goal.returns
returns c =
    let bytes = c.args.self.now.bytes.now in
    let long : length bytes ≡ 48 = c.part.ensures.whole in
    c.part.ensures.part ∙ take_all 32 (drop 16 bytes) (simp length-drop (omega arith))

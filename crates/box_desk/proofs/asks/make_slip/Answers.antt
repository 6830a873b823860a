use Rattle.archive_box.specs.Boxes.{made, state}
use Rattle.box_desk.proofs.Slips.{refused_slip, refused_made}
use Rattle.box_desk.proofs.asks.make_slip.Goals as goal

pub returns-in-Err : goal.returns-in-Err
returns-in-Err g c =
    let m = made g.C.Cipher.forward g.C.TwoWayCipher.back c.args.asked.now in
    let s = state g.S.Shelf.meaning c.args.asked.now in
    refused_made _ _ c.in-Err.refusal.fault c.args.number c.in-Err.refusal.number c.args.hand.now.numbers.items c.spent.new.hand.numbers.items c.spent.result
    (refused_slip m s (state g.S.Shelf.meaning c.make_slip.new.self) c.args.number.value (g.K.SlipKind.writes c.args.content.now) _ c.make_slip.new.bytes c.in-Err.refusal.fault (c.in-Err.ensures.slips).1)
    c.in-Err.ensures.back c.spent.ensures.hand

use Rattle.std.proofs.Common.{Err, ap}
use Rattle.archive_box.specs.Boxes.{made, state}
use Rattle.lent_memory.proofs.Sealings.{made_same, sealed_next, never_left}
use Rattle.lent_memory.proofs.seals.seal_next.Goals as goal

pub returns-in_err-void-in-Err-clause-seals : goal.returns-in_err-void-in-Err-clause-seals
returns-in_err-void-in-Err-clause-seals g c =
    let m = made g.C.Cipher.forward g.C.TwoWayCipher.back c.args.asked.now in
    let s = state g.S.Shelf.meaning c.args.asked.now in
    absurd (never_left m s (state g.S.Shelf.meaning c.draw.new.self) c.in_ok-number.number.value c.in_ok-number.ensures.draws.1 _ _ _ (made g.C.Cipher.forward g.C.TwoWayCipher.back c.seal.new.self) _
    (ap (λ x. x.value) c.in-Err.ensures.back) (ap (state g.S.Shelf.meaning) c.in-Err.ensures.shelf) c.in_err-void-in-Err.ensures.voids.1)

pub returns-in_ok-void-in-Err-clause-seals : goal.returns-in_ok-void-in-Err-clause-seals
returns-in_ok-void-in-Err-clause-seals g c =
    let m = made g.C.Cipher.forward g.C.TwoWayCipher.back c.args.asked.now in
    let s = state g.S.Shelf.meaning c.args.asked.now in
    sealed_next m s (state g.S.Shelf.meaning c.draw.new.self) c.in_ok-number.number.value c.in_ok-number.ensures.draws.1 c.args.place c.args.label.now c.args.message.now c.args.buffer.now c.seal.new.bytes
    (made g.C.Cipher.forward g.C.TwoWayCipher.back c.draw.new.self) (state g.S.Shelf.meaning c.seal.new.self) (Err c.in-Err.field-0.fault)
    (made_same g.C.Cipher.forward g.C.TwoWayCipher.back c.args.asked.now c.draw.new.self c.in_ok-number.ensures.draws.0) c.in-Err.ensures.seals.1

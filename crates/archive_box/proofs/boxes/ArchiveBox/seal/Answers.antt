use Rattle.std.proofs.Common.{Err, sym, ap, subst}
use Rattle.box_model.specs.Calls.{Seals}
use Rattle.archive_box.specs.Boxes.{made, state}
use Rattle.archive_box.proofs.boxes.ArchiveBox.seal.Goals as goal

pub returns-in-Err-clause-seals : goal.returns-in-Err-clause-seals
returns-in-Err-clause-seals g c =
    let m = made g.C.Cipher.forward g.C.TwoWayCipher.back c.args.self.now in
    let s = state g.S.Shelf.meaning c.args.self.now in
    let sealed = c.in-Err.ensures.seals in (
      sealed.0,
      subst (λ r. Seals m s c.args.number.value c.args.place c.args.label.now c.args.message.now c.args.bytes.now r c.sealed.new.bytes (state g.S.Shelf.meaning c.sealed.new.self))
          (ap Err (sym c.placed.ensures)) sealed.1,
    )

use Rattle.std.proofs.Common.{◌≡◌, length, Err, ap, rules}
use Rattle.faults.proofs.Results.{handed_on}
use Rattle.octets.specs.Octets.{zeros}
use Rattle.box_model.proofs.OwnKinds.{reads_its_kind}
use Rattle.archive_box.specs.Boxes.{made, state}
use Rattle.archive_box.proofs.Fairly.{fair_box}
use Rattle.archive_box.proofs.ReadingSlips.{refused_below, of_a_content, of_no_content}
use Rattle.archive_box.proofs.boxes.ArchiveBox.read_slip.Goals as goal

pub returns-in_err-length : goal.returns-in_err-length
returns-in_err-length g c =
    let m = made g.C.Cipher.forward g.C.TwoWayCipher.back c.args.self.now in
    let s = state g.S.Shelf.meaning c.args.self.now in
    let fair = fair_box g.C.Cipher.forward g.C.TwoWayCipher.back g.met.C.Cipher.gives_blocks g.met.C.TwoWayCipher.two_way c.args.self.now in
    let r = refused_below m s g.K.SlipKind.writes c.args.bytes.now c.args.message.now c.unslip.new.message c.unslip.result c.unslip.ensures
    c.in_err-length.field-0.0 c.from_residual.result c.in_err-length.was (handed_on _ c.from_residual.result c.from_residual.ensures.1) in
    record { reads = r; kind = reads_its_kind m fair s g.K.SlipKind.writes g.met.K.SlipKind.is_kind c.args.bytes.now c.args.message.now c.unslip.new.message _ r }

pub returns-in-Some : goal.returns-in-Some
returns-in-Some g c =
    let m = made g.C.Cipher.forward g.C.TwoWayCipher.back c.args.self.now in
    let s = state g.S.Shelf.meaning c.args.self.now in
    let fair = fair_box g.C.Cipher.forward g.C.TwoWayCipher.back g.met.C.Cipher.gives_blocks g.met.C.TwoWayCipher.two_way c.args.self.now in
    let r = of_a_content m s g.K.SlipKind.writes c.args.bytes.now c.args.message.now c.unslip.new.message c.unslip.result c.unslip.ensures
    c.in_ok-length.length c.in_ok-length.was c.in-Some.content c.in-Some.ensures in
    record { reads = r; kind = reads_its_kind m fair s g.K.SlipKind.writes g.met.K.SlipKind.is_kind c.args.bytes.now c.args.message.now c.unslip.new.message _ r }

pub returns-in-None : goal.returns-in-None
returns-in-None g c =
    let m = made g.C.Cipher.forward g.C.TwoWayCipher.back c.args.self.now in
    let s = state g.S.Shelf.meaning c.args.self.now in
    let fair = fair_box g.C.Cipher.forward g.C.TwoWayCipher.back g.met.C.Cipher.gives_blocks g.met.C.TwoWayCipher.two_way c.args.self.now in
    let zero : c.fill.new.self ≡ zeros (length c.args.message.now) = search rules in
    let r = of_no_content m s g.K.SlipKind.writes c.args.bytes.now c.args.message.now c.unslip.new.message c.unslip.result c.unslip.ensures
    c.in_ok-length.length c.in_ok-length.was c.in-None.ensures (Err c.into.result) c.fill.new.self (ap Err c.into.ensures) zero in
    record { reads = r; kind = reads_its_kind m fair s g.K.SlipKind.writes g.met.K.SlipKind.is_kind c.args.bytes.now c.args.message.now c.fill.new.self _ r }

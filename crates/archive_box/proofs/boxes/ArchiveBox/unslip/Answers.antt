use Rattle.std.proofs.Common.{◌≡◌, length, subst, rules}
use Rattle.faults.proofs.Results.{handed_on}
use Rattle.sealing.specs.Slips.{OpensSlip}
use Rattle.archive_box.specs.Boxes.{made, state}
use Rattle.archive_box.proofs.Unslipping.{unslip_refused, unslip_done}
use Rattle.archive_box.proofs.boxes.ArchiveBox.unslip.Goals as goal

pub returns-in_err-open : goal.returns-in_err-open
returns-in_err-open g c =
    let m = made g.C.Cipher.forward g.C.TwoWayCipher.back c.args.self.now in
    let s = state g.S.Shelf.meaning c.args.self.now in
    let whole : length c.args.bytes.now ≡ 48 = search rules in
    let room : length c.args.message.now ≡ 15 = search rules in
    let same : c.in_ok-bytes.bytes.now ≡ c.args.bytes.now = search rules in
    let opens = subst (λ b. OpensSlip m.back m.key b c.open.result c.open.new.message) same c.open.ensures in
    unslip_refused m s c.args.bytes.now c.args.message.now c.open.new.message c.open.result whole room opens
    c.in_err-open.field-0.0 c.from_residual-in_err-open.result c.in_err-open.was (handed_on _ c.from_residual-in_err-open.result c.from_residual-in_err-open.ensures.1)

pub returns : goal.returns
returns g c =
    let m = made g.C.Cipher.forward g.C.TwoWayCipher.back c.args.self.now in
    let s = state g.S.Shelf.meaning c.args.self.now in
    let whole : length c.args.bytes.now ≡ 48 = search rules in
    let room : length c.args.message.now ≡ 15 = search rules in
    let same : c.in_ok-bytes.bytes.now ≡ c.args.bytes.now = search rules in
    let opens = subst (λ b. OpensSlip m.back m.key b c.open.result c.open.new.message) same c.open.ensures in
    unslip_done m s c.args.bytes.now c.args.message.now c.open.new.message c.open.result whole room opens c.in_ok-open.field-0 c.in_ok-open.was

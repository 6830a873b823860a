use Rattle.std.proofs.Common.{◌≡◌, Some, sym, refl, ap, ◌∙◌, rules}
use Rattle.archive_box.specs.Boxes.{made, state}
use Rattle.archive_box.specs.Returned.{with_place}
use Rattle.archive_box.proofs.Placing.{placed_by}
use Rattle.archive_box.proofs.Numbering.{number_by}
use Rattle.archive_box.proofs.boxes.ArchiveBox.number_at.Goals as goal

pub returns-then-is_empty : goal.returns-then-is_empty
returns-then-is_empty g c =
    let m = made g.C.Cipher.forward g.C.TwoWayCipher.back c.args.self.now in
    let s = state g.S.Shelf.meaning c.args.self.now in
    let e : c.map_err.result ≡ with_place c.args.place c.record.result = placed_by c.args.place _ (λ e x p. search rules) c.record.result c.map_err.result c.map_err.ensures.cases in
    number_by m s c.args.place c.record.result c.in_ok-bytes.bytes (sym e ∙ c.in_ok-bytes.was) c.record.ensures _ (λ h. refl) (λ h. absurd (h c.if-is_empty.ensures))

pub returns : goal.returns
returns g c =
    let m = made g.C.Cipher.forward g.C.TwoWayCipher.back c.args.self.now in
    let s = state g.S.Shelf.meaning c.args.self.now in
    let e : c.map_err.result ≡ with_place c.args.place c.record.result = placed_by c.args.place _ (λ e x p. search rules) c.record.result c.map_err.result c.map_err.ensures.cases in
    number_by m s c.args.place c.record.result c.in_ok-bytes.bytes (sym e ∙ c.in_ok-bytes.was) c.record.ensures _ (λ h. absurd (c.if-is_empty.ensures h)) (λ h. ap Some c.number.ensures)

use Rattle.std.proofs.Common.{◌≡◌, sym, subst, rules}
use Rattle.box_model.specs.Calls.{Reads}
use Rattle.archive_box.specs.Boxes.{made, state}
use Rattle.archive_box.specs.Returned.{number_and_length, with_place}
use Rattle.archive_box.proofs.Placing.{placed_by}
use Rattle.archive_box.proofs.boxes.ArchiveBox.read.Goals as goal

pub returns : goal.returns
returns g c =
    let m = made g.C.Cipher.forward g.C.TwoWayCipher.back c.args.self.now in
    let s = state g.S.Shelf.meaning c.args.self.now in
    let e : c.map_err.result ≡ with_place c.args.place c.opened.result = placed_by c.args.place _ (λ e x p. search rules) c.opened.result c.map_err.result c.map_err.ensures.cases in
    subst (λ r. Reads m s c.args.place c.args.bytes.now (number_and_length r) c.opened.new.bytes) (sym e) c.opened.ensures

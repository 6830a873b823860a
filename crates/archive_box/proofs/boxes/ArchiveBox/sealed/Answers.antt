use Rattle.std.proofs.Common.{◌≡◌, length, sym, ◌∙◌, refl, ap₂, rules}
use Rattle.faults.proofs.Results.{never_both, handed_on}
use Rattle.records.specs.Sheets.{sheet_under}
use Rattle.numbers.specs.Listed.{listed}
use Rattle.archive_box.specs.Boxes.{made, state}
use Rattle.archive_box.proofs.Sealings.{seal_refused, put_done, seal_done}
use Rattle.archive_box.proofs.boxes.ArchiveBox.sealed.Goals as goal

pub returns-in_err-check_seal-clause-seals : goal.returns-in_err-check_seal-clause-seals
returns-in_err-check_seal-clause-seals g c =
    let m = made g.C.Cipher.forward g.C.TwoWayCipher.back c.args.self.now in
    let s = state g.S.Shelf.meaning c.args.self.now in
    (refl, seal_refused m s c.args.number c.args.place c.args.label.now c.args.message.now c.args.bytes.now c.in_err-check_seal.field-0.0 c.from_residual.result (handed_on _ c.from_residual.result c.from_residual.ensures.1) c.in_err-check_seal.ensures)

pub returns-in_err-put-clause-seals : goal.returns-in_err-put-clause-seals
returns-in_err-put-clause-seals g c =
    let m = made g.C.Cipher.forward g.C.TwoWayCipher.back c.args.self.now in
    let s = state g.S.Shelf.meaning c.args.self.now in
    let long : length c.seal.new.bytes ≡ 1024 = search rules in
    let put = put_done m s c.args.number c.args.place c.args.label.now c.args.message.now c.args.bytes.now c.in_ok-check_seal.ensures c.seal.new.bytes c.put.result (g.S.Shelf.meaning c.put.new.self) long c.put.ensures.puts in
    absurd (never_both tt _ (sym put.0 ∙ c.in_err-put.was))

pub returns-clause-seals : goal.returns-clause-seals
returns-clause-seals g c =
    let f = g.C.Cipher.forward c.args.self.now.cipher in
    let m = made g.C.Cipher.forward g.C.TwoWayCipher.back c.args.self.now in
    let s = state g.S.Shelf.meaning c.args.self.now in
    let clear = c.in_ok-check_seal.ensures in
    let long : length c.seal.new.bytes ≡ 1024 = search rules in
    let label : c.unwrap-label.result.now ≡ c.args.label.now = search rules in
    let put = put_done m s c.args.number c.args.place c.args.label.now c.args.message.now c.args.bytes.now clear c.seal.new.bytes c.put.result (g.S.Shelf.meaning c.put.new.self) long c.put.ensures.puts in
    let done = c.seal.ensures.1 clear.1.0 in
    let e = done.1 ∙ ap₂ (λ n l. sheet_under f c.args.self.now.key n c.args.place l c.args.message.now) c.nonce-nonce.ensures label in (
      refl,
      seal_done m s c.args.number c.args.place c.args.label.now c.args.message.now c.args.bytes.now clear c.seal.new.bytes
          (g.S.Shelf.meaning c.put.new.self) (listed c.take_out.new.self) e put.1 c.take_out.ensures,
    )

use Rattle.std.proofs.Common.{◌*◌, length, refl}
use Rattle.octets.proofs.Writes.{put_is}
use Rattle.tray.specs.Trays.{tray}
use Rattle.shelf.proofs.Tables.{put_allowed}
use Rattle.tray.proofs.Trays.{tray_lawful, tray_puts, tray_stores}
use Rattle.tray.proofs.TrayShelf.put.Goals as goal

pub invariant_of-self : goal.invariant_of-self
invariant_of-self c = record { lawful = tray_lawful _ }

pub returns : goal.returns
returns c =
    let memory = c.args.self.now.memory.now in
    let bytes = c.args.bytes.now in
    let place = c.args.place in
    let allowed = c.in_ok-check_put.ensures in
    let all = put_is (1024 * place) 1024 memory _ bytes c.copy_from_slice.ensures.after (put_allowed (tray memory) place (length bytes) allowed).0 in
    record { puts = tray_puts memory bytes _ place allowed all; entire = (tray_stores memory bytes _ place allowed all, refl) }

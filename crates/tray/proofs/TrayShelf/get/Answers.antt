use Rattle.std.proofs.Common.{◌+◌, ◌*◌, refl, ◌∙◌}
use Rattle.octets.proofs.Writes.{part_is}
use Rattle.tray.specs.Trays.{tray}
use Rattle.shelf.proofs.Tables.{get_done}
use Rattle.tray.proofs.TrayShelf.get.Goals as goal

pub returns : goal.returns
returns c =
    let memory = c.args.self.now.memory.now in
    let from = 1024 * c.args.place in
    get_done (tray memory) c.args.place _ _ c.in_ok-check_get.ensures (c.copy_from_slice.ensures.after ∙ part_is from 1024 (from + 1024) memory refl)

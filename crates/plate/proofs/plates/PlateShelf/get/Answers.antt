use Rattle.std.proofs.Common.{◌+◌, ◌*◌, Some, None, sym, ap, ◌∙◌, arith}
use Rattle.octets.specs.Octets.{zeros}
use Rattle.octets.proofs.Writes.{part_is}
use Rattle.plate.specs.Plates.{cells, held, plate}
use Rattle.plate.proofs.Marks.{last_is}
use Rattle.shelf.proofs.Tables.{get_allowed, get_done}
use Rattle.plate.proofs.plates.PlateShelf.get.Goals as goal

pub returns-in-Some : goal.returns-in-Some
returns-in-Some c =
    let s = c.args.self.now in
    let memory = s.memory.now in
    let j = c.in-Some.j in
    let allowed = c.in_ok-check_get.ensures in
    let found = c.in-Some.ensures.inside (get_allowed (plate memory s.places) c.args.place _ allowed).1 in
    get_done (plate memory s.places) c.args.place _ _ allowed
    (c.copy_from_slice.ensures.after ∙ part_is (1026 * j + 2) 1024 (1026 * j + 1026) memory (omega arith) ∙ ap (held memory) (sym (last_is memory c.args.place (cells memory) (Some j) found)))

pub returns-in-None : goal.returns-in-None
returns-in-None c =
    let s = c.args.self.now in
    let memory = s.memory.now in
    let allowed = c.in_ok-check_get.ensures in
    let ok = get_allowed (plate memory s.places) c.args.place _ allowed in
    get_done (plate memory s.places) c.args.place _ _ allowed
    (c.fill.ensures.after (λ y e. e) ∙ ap zeros ok.0 ∙ ap (held memory) (sym (last_is memory c.args.place (cells memory) None (c.in-None.ensures.inside ok.1))))

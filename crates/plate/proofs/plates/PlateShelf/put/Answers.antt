use Rattle.std.proofs.Common.{refl}
use Rattle.plate.proofs.Putting.{plate_lawful}
use Rattle.plate.proofs.Filling.{record_fits, mark_fits, done}
use Rattle.plate.proofs.plates.PlateShelf.put.Goals as goal

pub invariant_of-self : goal.invariant_of-self
invariant_of-self c =
    let s = c.args.self.now in
    let first = c.paste.ensures.fitting (record_fits s.memory.now c.args.bytes.now s.places s.used c.args.place s.few s.counted s.marks s.order c.in_ok-check_put.ensures) in
    let second = c.paste-2.ensures.fitting (mark_fits s.memory.now c.args.bytes.now s.places s.used c.args.place s.few s.counted s.marks s.order c.in_ok-check_put.ensures _ _ c.to_be_bytes.ensures first) in
    let d = done s.memory.now c.args.bytes.now s.places s.used c.args.place s.few s.counted s.marks s.order c.in_ok-check_put.ensures
    _ _ c.to_be_bytes.ensures first _ second in
    record { few = s.few; lawful = plate_lawful _ s.places s.few; counted = d.counted; marks = d.marks; order = d.order }

pub returns : goal.returns
returns c =
    let s = c.args.self.now in
    let first = c.paste.ensures.fitting (record_fits s.memory.now c.args.bytes.now s.places s.used c.args.place s.few s.counted s.marks s.order c.in_ok-check_put.ensures) in
    let second = c.paste-2.ensures.fitting (mark_fits s.memory.now c.args.bytes.now s.places s.used c.args.place s.few s.counted s.marks s.order c.in_ok-check_put.ensures _ _ c.to_be_bytes.ensures first) in
    let d = done s.memory.now c.args.bytes.now s.places s.used c.args.place s.few s.counted s.marks s.order c.in_ok-check_put.ensures
    _ _ c.to_be_bytes.ensures first _ second in
    record { puts = d.puts; entire = (d.stores, refl, refl) }

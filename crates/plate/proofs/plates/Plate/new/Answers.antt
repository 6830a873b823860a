use Rattle.std.proofs.Common.{sym, subst, rules}
use Rattle.faults.specs.Tables.{Clear}
use Rattle.plate.specs.Plates.{fit_table}
use Rattle.plate.proofs.Putting.{Known, fit_from_clear, known_fit, known_none}
use Rattle.plate.proofs.plates.Plate.new.Goals as goal
use Rattle.plate.proofs.plates.Plate.new.Goals.{then-is_ok, else-is_ok}

pub invariant_of-result : goal.invariant_of-result
invariant_of-result c =
    let memory = c.args.memory.now in
    let known : Known memory c.if-is_ok.places = elim c.if-is_ok.branch [
      | then-is_ok w ↦
          let clear : Clear (fit_table memory c.args.places) = search rules in
          subst (Known memory) (sym w.places-is) (known_fit memory c.args.places (fit_from_clear memory c.args.places clear))
      | else-is_ok w ↦ subst (Known memory) (sym w.places-is) (known_none memory)
    ] in
    record { few = known.few; lawful = known.lawful; counted = c.count_used-used.ensures; marks = known.marks; order = known.order }

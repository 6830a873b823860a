use Rattle.std.proofs.Common.{◌≡◌, ◌*◌, ◌/◌, ◌≤◌, length}
use Rattle.saturnin.specs.Back.{rounds⁻¹}
use Rattle.saturnin.proofs.Turns.{none, Pairs}
use Rattle.saturnin.proofs.rounds.rounds_back.Given as goal

abbrev pub invariant-loop-slice : goal.invariant-loop-slice
invariant-loop-slice g l =
    let left = l.slice-iterator.iter.rest.now in
    let by = l.constants.of in record {
      pairs : Pairs none l.constants.rounds.now left;
      fit : length left ≤ by.super_rounds / 2;
      undone : rounds⁻¹ (g.F.Form.cube l.key) by.separator by.super_rounds (2 * (2 * length left)) (g.F.Form.cube l.s)
          ≡ rounds⁻¹ (g.F.Form.cube l.key) by.separator by.super_rounds (2 * (2 * (by.super_rounds / 2))) (g.F.Form.cube l.initial.s);
    }

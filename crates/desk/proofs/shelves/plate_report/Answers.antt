use Rattle.std.proofs.Common.{rules, arith, string_bytes}
use Rattle.std.proofs.lemmas.Grind.{common_steps}
use Rattle.plate.specs.Plates.{Fit}
use Rattle.desk.proofs.Memory.{no_memory_of_fit}
use Rattle.desk.proofs.shelves.plate_report.Goals as goal

pub returns-in_err-report-clause-report : goal.returns-in_err-report-clause-report
returns-in_err-report-clause-report c =
    let fit : Fit c.args.image.now c.args.places = first_of (search rules, grind (arith, common_steps)) in
    no_memory_of_fit string_bytes c.args.image.now c.args.places _ fit c.from_residual-in_err-report.ensures.1

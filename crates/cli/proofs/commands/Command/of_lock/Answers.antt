use Rattle.std.proofs.Common.{arith}
use Rattle.std.proofs.lemmas.Grind.{common_steps}
use Rattle.std.proofs.lemmas.Slice.Eq.{bytes_eq-Decides}
use Rattle.cli.proofs.commands.Command.of_lock.Goals as goal

pub returns-in-len5 : goal.returns-in-len5
returns-in-len5 c = grind (arith, common_steps, bytes_eq-Decides)

use Rattle.std.proofs.Common.{arith}
use Rattle.std.proofs.lemmas.Grind.{common_steps}
use Rattle.std.proofs.lemmas.Slice.Eq.{bytes_eq-Decides}
use Rattle.cli.proofs.commands.Command.of_shelf.Goals as goal

pub returns-in-len2 : goal.returns-in-len2
returns-in-len2 c = grind (arith, common_steps, bytes_eq-Decides)

pub returns-in-len3 : goal.returns-in-len3
returns-in-len3 c = grind (arith, common_steps, bytes_eq-Decides)

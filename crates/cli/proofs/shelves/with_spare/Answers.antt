use Rattle.std.proofs.Common.{rules}
use Rattle.std.proofs.lemmas.Bool.{cond-false, ne_eqb}
use Rattle.cli.proofs.shelves.with_spare.Goals as goal

pub returns : goal.returns
returns c = search (rules, cond-false, ne_eqb)

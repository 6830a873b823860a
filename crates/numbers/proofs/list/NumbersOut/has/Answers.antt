use Rattle.numbers.specs.Listed.{listed}
use Rattle.numbers.proofs.Places.{counted}
use Rattle.numbers.proofs.list.NumbersOut.has.Goals as goal

pub returns : goal.returns
returns c =
    rw (c.contains.ensures.value, c.deref.ensures.0)
    (counted c.args.number (listed c.args.self.now))

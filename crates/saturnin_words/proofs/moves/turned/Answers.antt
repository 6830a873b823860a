use Rattle.saturnin_words.proofs.Masks.{turns}
use Rattle.saturnin_words.proofs.moves.turned.Goals as goal

pub returns : goal.returns
returns g c = turns g.row.WIDTH g.row.LOW g.row.HIGH c.requires.width c.requires.low c.requires.high c.args.x

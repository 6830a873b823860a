use Rattle.std.proofs.Common.{◌+◌, ◌%◌}
use Rattle.saturnin_words.proofs.Places.{each_moves}
use Rattle.saturnin_words.proofs.quad.Quad.swapped.Goals as goal

pub returns : goal.returns
returns c = let e = c.each.ensures in each_moves c.args.self _ (λ p. (p + 16) % 32) e.a e.b e.c e.d

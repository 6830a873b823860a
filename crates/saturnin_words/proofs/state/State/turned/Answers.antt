use Rattle.saturnin_words.specs.Words.{in_word}
use Rattle.saturnin_words.proofs.Places.{each_moves, rows_turned}
use Rattle.saturnin_words.proofs.state.State.turned.Goals as goal

pub returns : goal.returns
returns g c =
    let e = c.each.ensures in
    let o = c.each-2.ensures in
    let w = g.row.WIDTH in
    rows_turned _ c.args.self w g.row.Y0 g.row.Y1 g.row.Y2 g.row.Y3 c.requires.width
    (each_moves _ _ (in_word w g.row.Y0 g.row.Y2) e.a e.b e.c e.d) (each_moves _ _ (in_word w g.row.Y1 g.row.Y3) o.a o.b o.c o.d)

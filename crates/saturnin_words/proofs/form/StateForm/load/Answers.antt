use Rattle.std.proofs.Common.{ℕ, ◌<◌, rules}
use Rattle.octets.specs.Lists.{at}
use Rattle.saturnin_words.proofs.Loading.{loaded}
use Rattle.saturnin_words.proofs.form.StateForm.load.Goals as goal

pub returns : goal.returns
returns c =
    let small : (i : ℕ) → at c.args.block.now i < 256 = λ i. search rules in
    let e = c.quad_at.ensures in
    let o = c.quad_at-2.ensures in
    loaded c.args.block.now small _ e.a e.b e.c e.d o.a o.b o.c o.d

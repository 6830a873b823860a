use Rattle.std.proofs.Common.{◌≡◌, T, sym, subst, ap, ◌∙◌, rules, eqb→eq}
use Rattle.std.proofs.lemmas.Bool.{eq-eqb}
use Rattle.modes.proofs.Agreeing.{gathered, alike, alike_same}
use Rattle.modes.proofs.bytes.same.Goals as goal

pub returns : goal.returns
returns c =
    let e : c.fold.result ≡ gathered 0 c.xor.result = search rules in
    let f = e ∙ ap (gathered 0) c.xor.ensures in record {
      yes = λ t. alike c.args.a.now c.args.b.now c.told-a c.told-b (sym f ∙ eqb→eq c.fold.result 0 t);
      no = λ q. subst T (sym (eq-eqb c.fold.result 0 (f ∙ alike_same c.args.a.now c.args.b.now c.told-a c.told-b q))) tt;
    }

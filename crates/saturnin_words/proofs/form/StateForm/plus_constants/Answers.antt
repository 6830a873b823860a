use Rattle.std.proofs.Common.{◌≡◌, ◌+◌, ◌*◌, ◌/◌, ◌%◌, refl, ◌∙◌, ap₂, arith}
use Rattle.saturnin.specs.Layers.{add}
use Rattle.saturnin.specs.Rounds.{constants}
use Rattle.saturnin_words.specs.Words.{cube_of}
use Rattle.saturnin_words.proofs.Quads.{across-first}
use Rattle.saturnin_words.proofs.Halves.{constants_added}
use Rattle.saturnin_words.proofs.form.StateForm.plus_constants.Goals as goal

pub returns : goal.returns
returns c =
    let x = c.args.self.even in
    let k = c.args.c in
    let word = c.from.result + 65536 * c.from-2.result in
    let lower : word % 65536 ≡ k.0 = omega (arith, c.from.ensures, c.from-2.ensures) in
    let upper : word / 65536 ≡ k.1 = omega (arith, c.from.ensures, c.from-2.ensures) in
    constants_added _ c.args.self word (λ p. across-first x.a x.b x.c x.d p word) (λ p. refl)
    ∙ ap₂ (λ a b. add (constants a b) (cube_of c.args.self)) lower upper

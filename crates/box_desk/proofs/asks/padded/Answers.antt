use Rattle.std.proofs.Common.{◌∙◌, ap, ◌++◌, ℕ, length, drop, replicate, zero-add, arith}
use Rattle.std.proofs.lemmas.List.{drop-replicate}
use Rattle.box_desk.proofs.asks.padded.Goals as goal

pub returns : goal.returns
returns c =
    let label = c.args.label.now in
    c.paste.ensures.fitting (omega (arith, c.if-label-gt46.false))
    ∙ ap (λ n. label ++ drop n (replicate {A = ℕ} 46 0)) (zero-add (length label))
    ∙ ap (λ rest. label ++ rest) (drop-replicate {X = ℕ} (length label) 46 0)

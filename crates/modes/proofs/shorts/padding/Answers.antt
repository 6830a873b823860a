use Rattle.std.proofs.Common.{◌≡◌, ℕ, ◌<◌, length, get_or, rules}
use Rattle.modes.proofs.Paddings.{none_found, found}
use Rattle.modes.proofs.shorts.padding.Goals as goal

pub returns-in_err-n : goal.returns-in_err-n
returns-in_err-n c =
    let zero : (j : ℕ) → j < length c.args.bytes.now → get_or c.args.bytes.now j 0 ≡ 0 = λ j h. search rules in
    rw c.from_residual.ensures (λ m l e. none_found c.args.bytes.now m e l zero)

pub returns : goal.returns
returns c =
    let s = c.args.bytes.now in
    let n = c.in_ok-n.n in
    let within : n < length s = search rules in
    let here : get_or s n 0 ≡ 0 → ⊥ = search rules in
    let after : (j : ℕ) → n < j → j < length s → get_or s j 0 ≡ 0 = λ j h k. search rules in
    rw c.then_some.ensures (found s n within here after)

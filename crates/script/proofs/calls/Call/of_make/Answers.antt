use Rattle.std.proofs.Common.{sym, subst}
use Rattle.script.specs.Words.{OnlyNumeral}
use Rattle.script.proofs.Unspelt.{made}
use Rattle.script.proofs.calls.Call.of_make.Goals as goal

pub returns-in_err-only_u64 : goal.returns-in_err-only_u64
returns-in_err-only_u64 c =
    rw c.from_residual-in_err-only_u64.ensures (λ call h.
    let first = made c.args.rest.now call h in
    c.in_err-only_u64.ensures first.0 (subst (λ t. OnlyNumeral 64 t first.0) (sym c.split_word.ensures.rest) first.1))

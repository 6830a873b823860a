use Rattle.std.proofs.Common.{◌≡◌, ◌≢◌, MatchBool, List, ℕ, length, ap, subst, rules}
use Rattle.octets.specs.Octets.{zeros}
use Rattle.records.proofs.sheets.Record.is_empty.Goals as goal

pub returns : goal.returns
returns c =
    let bytes = c.args.self.now.bytes.now in
    let long : length bytes ≡ 1024 = search rules in
    subst (λ (none : List ℕ). MatchBool c.is_zero.result (bytes ≡ none) (bytes ≢ none)) (ap zeros long) c.is_zero.ensures

use Rattle.std.proofs.Common.{◌≡◌, length, sym, subst, rules}
use Rattle.faults.proofs.Results.{handed_on}
use Rattle.faults.specs.Tables.{By}
use Rattle.modes.specs.Cascade.{cascade_table}
use Rattle.modes.proofs.Refusing.{open_refused}
use Rattle.modes.proofs.cascade.Cascade.opened.Goals as goal

pub returns-in_err-under : goal.returns-in_err-under
returns-in_err-under g c =
    let long : length c.args.tag.now ≡ 32 = search rules in
    let s = c.args.self.now in
    let fault = c.in_err-under.field-0.0 in
    open_refused (g.C.Cipher.forward s.cipher.now) s.key.now s.nonce.now s.associated.now c.args.text.now c.args.out.now c.args.tag.now
    fault c.from_residual.result (handed_on fault c.from_residual.result c.from_residual.ensures.1)
    (subst (λ n. By (cascade_table (length s.key.now) (length s.nonce.now) (length s.associated.now) (length c.args.text.now) (length c.args.out.now) n) (λ row. fault ≡ row) ⊥) (sym long) c.in_err-under.ensures)

use Rattle.std.proofs.Common.{vec_items, sym, ◌∙◌, subst, arith}
use Rattle.faults.specs.Tables.{Clear}
use Rattle.faults.proofs.Results.{handed_on}
use Rattle.saturnin.specs.Rounds.{forward}
use Rattle.locked.specs.Locked.{FileHoldsOnly}
use Rattle.desk.specs.Locks.{UnlockAnswer, unlock_rows}
use Rattle.std.proofs.lemmas.List.{take_at}
use Rattle.desk.proofs.Buffers.{unlock_done, unlock_refused}
use Rattle.desk.proofs.locks.unlocked_bytes.Goals as goal

pub returns-in_err-check_unlock : goal.returns-in_err-check_unlock
returns-in_err-check_unlock c =
    let answer = c.from_residual.result in
    let file = c.args.file.now in
    subst (λ key. UnlockAnswer vec_items key file answer) c.deref.ensures.value
    (subst (UnlockAnswer vec_items c.deref.result.now file) (sym (handed_on _ answer c.from_residual.ensures.1)) c.in_err-check_unlock.ensures)

pub returns-in_err-unlock : goal.returns-in_err-unlock
returns-in_err-unlock c =
    let l = c.deref_mut.ensures.len in
    let made = c.in_ok-message.ensures.len in
    let key = c.deref-2.result.now in
    let file = c.args.file.now in
    let answer = c.from_residual-in_err-unlock.result in
    subst (λ k. UnlockAnswer vec_items k file answer) c.deref-2.ensures.value
    (subst (UnlockAnswer vec_items key file) (sym (handed_on _ answer c.from_residual-in_err-unlock.ensures.1))
    (unlock_refused key file c.deref_mut.result.now c.unlock.new.out _ (omega (arith, l, made)) c.in_err-unlock.ensures))

pub returns : goal.returns
returns c =
    let k = c.unlock.auto.out in
    let l = c.deref_mut.ensures.len in
    let made = c.in_ok-message.ensures.len in
    let key = c.deref-2.result.now in
    let file = c.args.file.now in
    let d = unlock_done key file c.deref_mut.result.now c.unlock.new.out c.in_ok-unlock.field-0 (omega (arith, l, made)) c.in_ok-unlock.ensures in
    let same = c.deref-2.ensures.value in
    let given = c.args.key.now.bytes.items in (
      subst (λ k. Clear (unlock_rows k file)) same d.0,
      subst (FileHoldsOnly forward given file) (sym (take_at c.unlock.new.out _ _ (k ∙ l)))
          (subst (λ k. FileHoldsOnly forward k file c.unlock.new.out) same d.1),
    )

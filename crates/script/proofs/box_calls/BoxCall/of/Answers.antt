use Rattle.std.proofs.Common.{subst}
use Rattle.script.specs.Spelling.{SpellsBoxCall}
use Rattle.script.proofs.Unspelt.{no_void, no_unslip, no_save, no_clear, no_number}
use Rattle.script.proofs.box_calls.BoxCall.of.Goals as goal

pub returns-in_err-only_u64-in-void : goal.returns-in_err-only_u64-in-void
returns-in_err-only_u64-in-void c =
    rw c.from_residual.ensures (λ call h. no_void c.args.rest.now c.in_err-only_u64-in-void.ensures call (subst (λ n. SpellsBoxCall n c.args.rest.now call) c.in-void.is h))

pub returns-in_err-only_text-in-unslip : goal.returns-in_err-only_text-in-unslip
returns-in_err-only_text-in-unslip c =
    rw c.from_residual-in_err-only_text-in-unslip.ensures (λ call h. no_unslip c.args.rest.now c.in_err-only_text-in-unslip.ensures call (subst (λ n. SpellsBoxCall n c.args.rest.now call) c.in-unslip.is h))

pub returns-in_err-only_text-in-save : goal.returns-in_err-only_text-in-save
returns-in_err-only_text-in-save c =
    rw c.from_residual-in_err-only_text-in-save.ensures (λ call h. no_save c.args.rest.now c.in_err-only_text-in-save.ensures call (subst (λ n. SpellsBoxCall n c.args.rest.now call) c.in-save.is h))

pub returns-in_err-only_u32-in-clear : goal.returns-in_err-only_u32-in-clear
returns-in_err-only_u32-in-clear c =
    rw c.from_residual-in_err-only_u32-in-clear.ensures (λ call h. no_clear c.args.rest.now c.in_err-only_u32-in-clear.ensures call (subst (λ n. SpellsBoxCall n c.args.rest.now call) c.in-clear.is h))

pub returns-in_err-only_u32-in-number : goal.returns-in_err-only_u32-in-number
returns-in_err-only_u32-in-number c =
    rw c.from_residual-in_err-only_u32-in-number.ensures (λ call h. no_number c.args.rest.now c.in_err-only_u32-in-number.ensures call (subst (λ n. SpellsBoxCall n c.args.rest.now call) c.in-number.is h))

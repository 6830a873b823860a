use Rattle.std.proofs.Common.{subst}
use Rattle.script.specs.Spelling.{SpellsSetting}
use Rattle.script.proofs.Unspelt.{no_key, no_tray}
use Rattle.script.proofs.settings.Setting.of.Goals as goal

pub returns-in_err-only_text-in-key : goal.returns-in_err-only_text-in-key
returns-in_err-only_text-in-key c =
    rw c.from_residual.ensures (λ call h. no_key c.args.rest.now c.in_err-only_text-in-key.ensures call (subst (λ n. SpellsSetting n c.args.rest.now call) c.in-key.is h))

pub returns-in_err-only_text-in-tray : goal.returns-in_err-only_text-in-tray
returns-in_err-only_text-in-tray c =
    rw c.from_residual-in_err-only_text-in-tray.ensures (λ call h. no_tray c.args.rest.now c.in_err-only_text-in-tray.ensures call (subst (λ n. SpellsSetting n c.args.rest.now call) c.in-tray.is h))

use Rattle.std.proofs.Common.{rules, ap, ◌∙◌}
use Rattle.saturnin_cube.specs.Parts.{nibble_in}
use Rattle.saturnin_cube.proofs.Loads.{unpacked, unpacked_registers}
use Rattle.saturnin_cube.proofs.Made.{made_rows}
use Rattle.saturnin_cube.proofs.form.CubeForm.load.Goals as goal

pub returns : goal.returns
unfolding unpacked
returns c =
    made_rows _ _ (nibble_in c.of-registers.result.all) _ (λ b r q lt called. (search rules, search rules)) c.from_fn.ensures.items
    ∙ ap unpacked c.of-registers.ensures ∙ unpacked_registers c.args.block.now

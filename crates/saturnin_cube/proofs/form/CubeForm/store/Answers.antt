use Rattle.std.proofs.Common.{◌≡◌, ◌/◌, ◌%◌, rules, ◌∙◌}
use Rattle.std.specs.Int.{to_le_bytes, w16}
use Rattle.octets.specs.Lists.{at, table}
use Rattle.saturnin.specs.Cube.{cube_register}
use Rattle.octets.proofs.Made.{made_table}
use Rattle.saturnin_cube.specs.Nibbles.{nibbles}
use Rattle.saturnin_cube.proofs.Loads.{stored}
use Rattle.saturnin_cube.proofs.form.CubeForm.store.Goals as goal

pub returns : goal.returns
returns c =
    let registers = c.from_fn-registers.result in
    let made : registers ≡ table 16 (cube_register (nibbles c.args.self)) =
    made_table _ _ _ 16 _ (λ g x q lt called. (search rules, search rules)) c.from_fn-registers.ensures.items in
    made_table _ _ (λ m. at (to_le_bytes w16 (at registers (m / 2))) (m % 2)) 32 _ (λ m x q lt called. (search rules, search rules)) c.from_fn.ensures.items
    ∙ stored (nibbles c.args.self) registers made

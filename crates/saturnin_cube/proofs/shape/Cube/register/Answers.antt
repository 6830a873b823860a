use Rattle.std.proofs.Common.{◌*◌, ◌/◌, ◌%◌, refl, ap, ◌∙◌, add_comm, arith}
use Rattle.std.specs.Int.{from_bool}
use Rattle.saturnin.specs.Bits.{bit, number}
use Rattle.octets.specs.Lists.{at}
use Rattle.saturnin.specs.Cube.{cube_register}
use Rattle.saturnin_cube.specs.Nibbles.{nibbles}
use Rattle.saturnin_cube.proofs.Flags.{flag_lt}
use Rattle.saturnin_cube.proofs.Nibbles.{row_is}
use Rattle.saturnin_cube.proofs.Loads.{bit_in, bit_more}
use Rattle.saturnin_cube.proofs.shape.Cube.register.Goals as goal

pub loop-b-init : goal.loop-b-init
unfolding number
loop-b-init c = (refl, omega arith, omega arith)

pub loop-b-preserved : goal.loop-b-preserved
loop-b-preserved c =
    let s = c.args.self.now in
    let g = c.args.g in
    let b = c.loop-b.b in
    let lt = c.loop-b-test.true in
    bit_more _ b c.loop-b.x (from_bool c.bit.result) lt c.loop-b.invariant
    (c.bit.ensures
    ∙ ap (λ v. bit v (g % 4)) (c.nibble.ensures ∙ row_is s b _ lt (g / 4) (omega arith) ∙ ap (at (nibbles s)) (add_comm (4 * b) (g / 4))))
    (flag_lt c.bit.result)

pub returns : goal.returns
unfolding cube_register
returns c = c.loop-b.invariant.0 ∙ ap (number (bit_in (nibbles c.args.self.now) c.args.g)) (omega arith)

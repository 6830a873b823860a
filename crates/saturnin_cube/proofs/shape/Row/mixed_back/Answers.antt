use Rattle.std.proofs.Common.{lit<}
use Rattle.saturnin.specs.Back.{M⁻¹_row}
use Rattle.saturnin.proofs.Numbers.{four}
use Rattle.saturnin_cube.proofs.Nibbles.{taken}
use Rattle.saturnin_cube.proofs.shape.Row.mixed_back.Goals as goal

pub returns : goal.returns
unfolding M⁻¹_row
returns c =
    let r = c.args.self in
    let e₀ = taken r 0 c.index-self-0.is (lit< tt) in
    let e₁ = taken r 1 c.index-self-1.is (lit< tt) in
    let e₂ = taken r 2 c.index-self-2.is (lit< tt) in
    let e₃ = taken r 3 c.index-self-3.is (lit< tt) in
    four _ (cc) (cc) (cc) (cc)

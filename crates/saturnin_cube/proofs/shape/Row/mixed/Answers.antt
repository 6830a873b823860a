use Rattle.std.proofs.Common.{lit<}
use Rattle.saturnin.proofs.Matrix.{row0, row1, row2, row3}
use Rattle.saturnin.proofs.Numbers.{four}
use Rattle.saturnin_cube.specs.Nibbles.{of_row}
use Rattle.saturnin_cube.proofs.Nibbles.{taken}
use Rattle.saturnin_cube.proofs.shape.Row.mixed.Goals as goal

pub returns : goal.returns
returns c =
    let r = c.args.self in
    let e₀ = taken r 0 c.index-self-0.is (lit< tt) in
    let e₁ = taken r 1 c.index-self-1.is (lit< tt) in
    let e₂ = taken r 2 c.index-self-2.is (lit< tt) in
    let e₃ = taken r 3 c.index-self-3.is (lit< tt) in
    let r₀ = row0 (of_row r 0) (of_row r 1) (of_row r 2) (of_row r 3) in
    let r₁ = row1 (of_row r 0) (of_row r 1) (of_row r 2) (of_row r 3) in
    let r₂ = row2 (of_row r 0) (of_row r 1) (of_row r 2) (of_row r 3) in
    let r₃ = row3 (of_row r 0) (of_row r 1) (of_row r 2) (of_row r 3) in
    four _ (cc) (cc) (cc) (cc)

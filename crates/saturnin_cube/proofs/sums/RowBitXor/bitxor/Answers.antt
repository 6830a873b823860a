use Rattle.std.proofs.Common.{rules, bit_xor}
use Rattle.saturnin_cube.specs.Nibbles.{of_row}
use Rattle.saturnin_cube.proofs.Made.{made_row}
use Rattle.saturnin_cube.proofs.sums.RowBitXor.bitxor.Goals as goal

pub returns : goal.returns
returns c =
    made_row _ _ (λ y. bit_xor (of_row c.args.self y) (of_row c.args.other y)) _ (λ y n q lt called. (search rules, search rules)) c.from_fn.ensures.items

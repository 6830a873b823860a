-- α and the matrix M: both are linear, and M is worked as a network of XORs and αs.
use Rattle.std.proofs.Common.{◌≡◌, ℕ, ◌<◌, eqb, sym, ap, ◌∙◌}
use lib.Bits.{bit_xor, xor_comm, xor_assoc, xor_zero_r, xor_lt}
use Rattle.saturnin.specs.Bits.{bit, nibble}
use Rattle.saturnin.specs.Layers.{α, ⊕, M_row}
use Rattle.saturnin.proofs.Bits.{bit-xor, bit_lt, on_bits, at_bits, same_on_bits}

pub nibble-xor : (x0 x1 x2 x3 y0 y1 y2 y3 : ℕ) → x0 < 2 → x1 < 2 → x2 < 2 → x3 < 2 → y0 < 2 → y1 < 2 → y2 < 2 → y3 < 2
    → nibble (bit_xor x0 y0) (bit_xor x1 y1) (bit_xor x2 y2) (bit_xor x3 y3) ≡ bit_xor (nibble x0 x1 x2 x3) (nibble y0 y1 y2 y3)
unfolding nibble
nibble-xor x0 x1 x2 x3 y0 y1 y2 y3 a0 a1 a2 a3 b0 b1 b2 b3 =
    same_on_bits (λ y0 y1 y2 y3. nibble (bit_xor x0 y0) (bit_xor x1 y1) (bit_xor x2 y2) (bit_xor x3 y3))
    (λ y0 y1 y2 y3. bit_xor (nibble x0 x1 x2 x3) (nibble y0 y1 y2 y3))
    (at_bits (λ x0 x1 x2 x3. on_bits (λ y0 y1 y2 y3. eqb (nibble (bit_xor x0 y0) (bit_xor x1 y1) (bit_xor x2 y2) (bit_xor x3 y3)) (bit_xor (nibble x0 x1 x2 x3) (nibble y0 y1 y2 y3))))
    tt x0 x1 x2 x3 a0 a1 a2 a3)
    y0 y1 y2 y3 b0 b1 b2 b3

pub α-xor : (x y : ℕ) → α (bit_xor x y) ≡ bit_xor (α x) (α y)
unfolding α
α-xor x y =
    simp bit-xor
    (ap (λ v. nibble (bit_xor (bit x 1) (bit y 1)) (bit_xor (bit x 2) (bit y 2)) (bit_xor (bit x 3) (bit y 3)) v)
    (same_on_bits (λ x0 x1 y0 y1. bit_xor (bit_xor x0 y0) (bit_xor x1 y1)) (λ x0 x1 y0 y1. bit_xor (bit_xor x0 x1) (bit_xor y0 y1)) tt
    (bit x 0) (bit x 1) (bit y 0) (bit y 1) (bit_lt x 0) (bit_lt x 1) (bit_lt y 0) (bit_lt y 1))
    ∙ nibble-xor (bit x 1) (bit x 2) (bit x 3) (bit_xor (bit x 0) (bit x 1)) (bit y 1) (bit y 2) (bit y 3) (bit_xor (bit y 0) (bit y 1))
    (bit_lt x 1) (bit_lt x 2) (bit_lt x 3) (xor_lt 1 (bit x 0) (bit x 1) (bit_lt x 0) (bit_lt x 1))
    (bit_lt y 1) (bit_lt y 2) (bit_lt y 3) (xor_lt 1 (bit y 0) (bit y 1) (bit_lt y 0) (bit_lt y 1)))

xor_left_comm : (a b c : ℕ) → bit_xor a (bit_xor b c) ≡ bit_xor b (bit_xor a c)
xor_left_comm a b c = sym (xor_assoc a b c) ∙ ap (λ v. bit_xor v c) (xor_comm a b) ∙ xor_assoc b a c

-- the rows of M, as the network gives them
pub row0 : (a b c d : ℕ) → bit_xor (α (α (bit_xor a b))) (bit_xor (α b) (bit_xor c d)) ≡ M_row 0 a b c d
unfolding M_row ⊕
row0 a b c d = simp (α-xor, xor_zero_r, xor_assoc, xor_comm, xor_left_comm)

pub row2 : (a b c d : ℕ) → bit_xor (α (α (bit_xor c d))) (bit_xor (α d) (bit_xor a b)) ≡ M_row 2 a b c d
unfolding M_row ⊕
row2 a b c d = simp (α-xor, xor_zero_r, xor_assoc, xor_comm, xor_left_comm)

pub row1 : (a b c d : ℕ) → bit_xor (bit_xor (α b) (bit_xor c d)) (bit_xor (α (α (bit_xor c d))) (bit_xor (α d) (bit_xor a b))) ≡ M_row 1 a b c d
unfolding M_row ⊕
row1 a b c d = simp (α-xor, xor_zero_r, xor_assoc, xor_comm, xor_left_comm)

pub row3 : (a b c d : ℕ) → bit_xor (bit_xor (α d) (bit_xor a b)) (bit_xor (α (α (bit_xor a b))) (bit_xor (α b) (bit_xor c d))) ≡ M_row 3 a b c d
unfolding M_row ⊕
row3 a b c d = simp (α-xor, xor_zero_r, xor_assoc, xor_comm, xor_left_comm)

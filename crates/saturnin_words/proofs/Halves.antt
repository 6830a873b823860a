-- The two constants in one word.
use Rattle.std.proofs.Common.{◌≡◌, ℕ, ◌+◌, ◌*◌, ◌/◌, ◌%◌, ◌<◌, [], ◌∷◌, sym, ap, ◌∙◌, ap₂, add_comm, arith}
use lib.Bits.{bit_xor, xor_zero_r}
use Rattle.saturnin.specs.Bits.{bit}
use Rattle.octets.specs.Lists.{at}
use Rattle.saturnin.specs.Layers.{add}
use Rattle.saturnin.specs.Rounds.{constants}
use Rattle.saturnin.proofs.Bits.{bit_mod, bit_shr}
use Rattle.octets.proofs.Tables.{at_table, same_table}
use Rattle.saturnin_words.specs.Words.{quad, cube_of}
use Rattle.saturnin_words.specs.declared.state.State.{State}
use Rattle.saturnin_words.proofs.Places.{at_place, by_rows}

-- bits of the lower and of the upper half
pub low_bit : (x b : ℕ) → b < 16 → bit x b ≡ bit (x % 65536) b
low_bit x b h = sym (bit_mod x 16 b h)

pub high_bit : (x b : ℕ) → bit x (b + 16) ≡ bit (x / 65536) b
high_bit x b = ap (bit x) (add_comm b 16) ∙ sym (bit_shr x 16 b)

pub constants_added : (r w : State) (x : ℕ) → ((p : ℕ) → quad r.even p ≡ bit_xor (quad w.even p) (bit x p))
    → ((p : ℕ) → quad r.odd p ≡ quad w.odd p) → cube_of r ≡ add (constants (x % 65536) (x / 65536)) (cube_of w)
unfolding add constants
constants_added r w x e o =
    by_rows r F
    (λ b h. e b ∙ ap₂ bit_xor (sym (at_place w (4 * b + 0) 0 b (omega arith) (omega arith) (omega arith))) (low_bit x b h))
    (λ b h. o b ∙ sym (at_place w (4 * b + 1) 1 b (omega arith) (omega arith) (omega arith)) ∙ sym (xor_zero_r _))
    (λ b h. e (b + 16) ∙ ap₂ bit_xor (sym (at_place w (4 * b + 2) 0 (b + 16) (omega arith) (omega arith) (omega arith))) (high_bit x b))
    (λ b h. o (b + 16) ∙ sym (at_place w (4 * b + 3) 1 (b + 16) (omega arith) (omega arith) (omega arith)) ∙ sym (xor_zero_r _))
    ∙ same_table 64 _ _ (λ i h. ap₂ bit_xor (ap (at (cube_of w)) (omega arith)) (sym (at_table 64 (λ i. spot (i % 4) (i / 4)) i h)))
  where
    spot : ℕ → ℕ → ℕ
    spot y b = at (bit (x % 65536) b ∷ 0 ∷ bit (x / 65536) b ∷ 0 ∷ []) y

    F : ℕ → ℕ → ℕ
    F y b = bit_xor (at (cube_of w) (4 * b + y)) (spot y b)

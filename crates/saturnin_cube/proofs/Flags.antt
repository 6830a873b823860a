-- Bits that are held as `bool`.
use Rattle.std.proofs.Common.{◌≡◌, ℕ, zero, suc, ◌<◌, Bool, true, false, not, eqb, refl, arith, lit<}
use Rattle.std.specs.Bool.{beq}
use Rattle.std.specs.Int.{from_bool}
use lib.Bits.{bit_xor}

pub flag : (n : ℕ) → n < 2 → from_bool (eqb n 1) ≡ n
flag zero h = refl
flag (suc zero) h = refl
flag (suc (suc n)) h = absurd (omega arith)

pub flag_lt : (b : Bool) → from_bool b < 2
flag_lt true = lit< tt
flag_lt false = lit< tt

pub flag_xor : (a b : Bool) → from_bool (not (beq a b)) ≡ bit_xor (from_bool a) (from_bool b)
flag_xor true true = refl
flag_xor true false = refl
flag_xor false true = refl
flag_xor false false = refl

-- Bits of numbers; bit 0 is the least significant.
use Rattle.std.specs.Prelude.{ℕ, zero, suc, ◌+◌, ◌*◌, ◌/◌, ◌%◌, ◌^◌}

-- bit k of n
unfoldable pub bit : (n k : ℕ) → ℕ
bit n k = n / 2 ^ k % 2

-- the nibble of four bits
unfoldable pub nibble : (x₀ x₁ x₂ x₃ : ℕ) → ℕ
nibble x₀ x₁ x₂ x₃ = x₀ + 2 * x₁ + 4 * x₂ + 8 * x₃

-- the number of n bits, the bit k of which is f k
unfoldable pub number : (f : ℕ → ℕ) (n : ℕ) → ℕ
number f zero = 0
number f (suc n) = number f n + 2 ^ n * f n

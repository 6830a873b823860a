-- Blocks to cubes and back.
use Rattle.std.proofs.Common.{◌≡◌, ℕ, zero, suc, ◌+◌, ◌*◌, ◌/◌, ◌%◌, ◌^◌, ◌<◌, ◌≤◌, List, [], ◌∷◌, ◌∙◌, mul_comm, pow-suc, add-one, arith, pow_mono, shl_exact}
use Rattle.std.specs.Int.{to_le_bytes, w16}
use Rattle.saturnin.specs.Bits.{bit, number}
use Rattle.octets.specs.Lists.{at, table}
use Rattle.saturnin.specs.Cube.{Cube, cube, register, to_cube, cube_register, from_cube}
use Rattle.saturnin.proofs.Bits.{bit_lt}
use Rattle.octets.proofs.Tables.{at_table, same_table}
use Rattle.saturnin.proofs.Numbers.{weighed_lt, number_lt}
use Rattle.saturnin_cube.specs.Parts.{nibble_in}

-- the cube of sixteen registers
unfoldable pub unpacked : (registers : List ℕ) → Cube
unpacked registers = cube (λ i. nibble_in registers (i / 4) (i % 4))

-- the cube of the registers of 32 bytes
pub unpacked_registers : (bytes : List ℕ) → unpacked (table 16 (register bytes)) ≡ to_cube bytes
unfolding unpacked nibble_in to_cube
unpacked_registers bytes = same_table 64 _ _ (λ i h.
    let at_register = λ (k : ℕ) (l : k < 4). at_table 16 (register bytes) (4 * (i % 4) + k) (omega arith) in
    rw (at_register 0 (omega arith), at_register 1 (omega arith), at_register 2 (omega arith), at_register 3 (omega arith)))

-- bit b of register g of a cube
abbrev pub bit_in : (s : List ℕ) (g b : ℕ) → ℕ
bit_in s g b = bit (at s (g / 4 + 4 * b)) (g % 4)

-- x has b bits, which f gives
abbrev pub Has_bits : (f : ℕ → ℕ) (b x : ℕ) → Type 0
Has_bits f b x = (x ≡ number f b) × (x < 2 ^ b) × (x < 2 ^ 16)

pub bit_more : (f : ℕ → ℕ) (b x v : ℕ) → b < 16 → Has_bits f b x → v ≡ f b → v < 2 → Has_bits f (b + 1) (x + v * 2 ^ b % 2 ^ 16)
unfolding number
bit_more f b x v h g k m =
    let shifted : v * 2 ^ b % 2 ^ 16 ≡ 2 ^ b * v = shl_exact 1 b 16 m (omega arith) ∙ mul_comm v (2 ^ b) in
    let below : x + 2 ^ b * v < 2 ^ (b + 1) = rw (add-one b, pow-suc 2 b) (weighed_lt x (2 ^ b) v g.1 m) in
    let most : 2 ^ (b + 1) ≤ 2 ^ 16 = pow_mono {j = 16} (omega arith) in
    (rw (shifted, add-one b, g.0, k), rw shifted below, rw shifted (omega arith))

-- the bytes of registers
byte : (r y : ℕ) → r < 2 ^ 16 → y < 2 → at (to_le_bytes w16 r) y ≡ at (r % 256 ∷ r / 256 ∷ []) y
byte r zero h l = omega arith
byte r (suc zero) h l = omega arith
byte r (suc (suc y)) h l = absurd (omega arith)

pub stored : (s registers : List ℕ) → registers ≡ table 16 (cube_register s) → table 32 (λ m. at (to_le_bytes w16 (at registers (m / 2))) (m % 2)) ≡ from_cube s
unfolding from_cube cube_register
stored s registers e = same_table 32 _ _ (λ m h.
    rw (e, at_table 16 (cube_register s) (m / 2) (omega arith)) (byte (cube_register s (m / 2)) (m % 2) (number_lt _ 16 (λ b. bit_lt _ _)) (omega arith)))

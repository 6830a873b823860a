-- Bytes to the cube and back.
use Rattle.std.proofs.Common.{◌≡◌, ℕ, zero, suc, ◌+◌, ◌*◌, ◌/◌, ◌%◌, ◌<◌, List, [], ◌∷◌, length, sym, refl, ap, ◌∙◌, ap₂, inl, inr, arith, lit<}
use Rattle.std.proofs.lemmas.List.{ext_get_or, get_or_past}
use Rattle.std.proofs.lemmas.Bool.{cases_lt}
use Rattle.saturnin.specs.Bits.{bit, nibble}
use Rattle.octets.specs.Lists.{at}
use Rattle.saturnin.specs.Cube.{register, to_cube, cube_register, from_cube}
use Rattle.cipher.specs.Meaning.{Bytes}
use Rattle.saturnin.proofs.Bits.{bit_lt}
use Rattle.octets.proofs.Tables.{at_table, length-table}
use Rattle.saturnin.proofs.Numbers.{number_same, number_bit, number_lt, bit-number, nibble_bits, nibble_lt, bit-nibble}
use Rattle.saturnin.proofs.Inverse.{Good, good_cube, cube_is}

-- bytes from a cube
pub from-cube-length : (s : List ℕ) → length (from_cube s) ≡ 32
unfolding from_cube
from-cube-length s = length-table 32 _

byte_lt : (r y : ℕ) → r < 65536 → y < 2 → at (r % 256 ∷ r / 256 ∷ []) y < 256
byte_lt r zero h l = omega arith
byte_lt r (suc zero) h l = omega arith
byte_lt r (suc (suc y)) h l = absurd (omega arith)

pub from-cube-bytes : (s : List ℕ) → Bytes 32 (from_cube s)
unfolding from_cube cube_register
from-cube-bytes s = (
  from-cube-length s,
  λ i.
      elim (cases_lt i 32) [
        | inl h ↦ rw (at_table 32 _ i h) (byte_lt (cube_register s (i / 2)) (i % 2) (number_lt _ 16 (λ b. bit_lt _ _)) (omega arith))
        | inr h ↦ rw (get_or_past (from_cube s) i 0 (omega (arith, from-cube-length s))) (omega arith)
      ],
)

-- a cube from bytes
pub to-cube-good : (bs : List ℕ) → Good (to_cube bs)
unfolding to_cube
to-cube-good bs = good_cube _ (λ i h. nibble_lt _ _ _ _ (bit_lt _ (i / 4)) (bit_lt _ (i / 4)) (bit_lt _ (i / 4)) (bit_lt _ (i / 4)))

register_from : (s : List ℕ) (g : ℕ) → g < 16 → register (from_cube s) g ≡ cube_register s g
unfolding register from_cube
register_from s g h =
    let r : ℕ = cube_register s g in
    let e0 : at (from_cube s) (2 * g) ≡ r % 256 = at_table 32 _ (2 * g) (omega arith)
    ∙ ap₂ (λ q y. at (cube_register s q % 256 ∷ cube_register s q / 256 ∷ []) y) (let e : 2 * g / 2 ≡ g = omega arith in e) (let e : 2 * g % 2 ≡ 0 = omega arith in e) in
    let e1 : at (from_cube s) (2 * g + 1) ≡ r / 256 = at_table 32 _ (2 * g + 1) (omega arith)
    ∙ ap₂ (λ q y. at (cube_register s q % 256 ∷ cube_register s q / 256 ∷ []) y) (let e : (2 * g + 1) / 2 ≡ g = omega arith in e) (let e : (2 * g + 1) % 2 ≡ 1 = omega arith in e) in
    ap₂ (λ x y. x + 256 * y) e0 e1 ∙ (let e : r % 256 + 256 * (r / 256) ≡ r = omega arith in e)

one_bit : (s : List ℕ) (i k : ℕ) → i < 64 → k < 4 → bit (register (from_cube s) (4 * (i % 4) + k)) (i / 4) ≡ bit (at s i) k
unfolding cube_register
one_bit s i k h l =
    let g : ℕ = 4 * (i % 4) + k in
    ap (λ v. bit v (i / 4)) (register_from s g (omega arith))
    ∙ bit-number (λ b. bit (at s (g / 4 + 4 * b)) (g % 4)) 16 (i / 4) (λ b. bit_lt _ (g % 4)) (omega arith)
    ∙ ap₂ (λ n m. bit (at s n) m) (let e : g / 4 + 4 * (i / 4) ≡ i = omega arith in e) (let e : g % 4 ≡ k = omega arith in e)

pub to-from : (s : List ℕ) → Good s → to_cube (from_cube s) ≡ s
unfolding to_cube
to-from s h = cube_is _ s h.long (λ i l.
    rw (one_bit s i 0 l (lit< tt), one_bit s i 1 l (lit< tt), one_bit s i 2 l (lit< tt), one_bit s i 3 l (lit< tt)) (nibble_bits (at s i) (h.small i l)))

-- thirty-two bytes are back where they were
fits : (b : List ℕ) (g : ℕ) → Bytes 32 b → register b g % 65536 ≡ register b g
unfolding register
fits b g h = let x = h.1 (2 * g) in let y = h.1 (2 * g + 1) in omega (arith, x, y)

register_to : (b : List ℕ) (g : ℕ) → Bytes 32 b → g < 16 → cube_register (to_cube b) g ≡ register b g
unfolding cube_register to_cube
register_to b g h l =
    number_same _ (bit (register b g)) 16 (λ c m.
    let q : ℕ = g / 4 in
    let lq : q < 4 = omega arith in
    ap (λ v. bit v (g % 4)) (at_table 64 _ (q + 4 * c) (omega arith)
    ∙ ap₂ (λ y p. nibble (bit (register b (4 * y + 0)) p) (bit (register b (4 * y + 1)) p) (bit (register b (4 * y + 2)) p) (bit (register b (4 * y + 3)) p))
    (let e : (q + 4 * c) % 4 ≡ q = omega arith in e) (let e : (q + 4 * c) / 4 ≡ c = omega arith in e))
    ∙ bit-nibble (λ k. bit (register b (4 * q + k)) c) (λ k. bit_lt _ c) (g % 4) (omega arith)
    ∙ ap (λ v. bit (register b v) c) (let e : 4 * (g / 4) + g % 4 ≡ g = omega arith in e))
    ∙ number_bit (register b g) 16
    ∙ fits b g h

byte : (b : List ℕ) → Bytes 32 b → (m y : ℕ) → m < 32 → y < 2 → y ≡ m % 2 → at (register b (m / 2) % 256 ∷ register b (m / 2) / 256 ∷ []) y ≡ at b m
unfolding register
byte b h m zero l k e = let x = h.1 (2 * (m / 2)) in let f : register b (m / 2) % 256 ≡ at b (2 * (m / 2)) = omega (arith, x) in f ∙ ap (at b) (let q : 2 * (m / 2) ≡ m = omega (arith, e) in q)
byte b h m (suc zero) l k e = let x = h.1 (2 * (m / 2)) in let f : register b (m / 2) / 256 ≡ at b (2 * (m / 2) + 1) = omega (arith, x) in f ∙ ap (at b) (let q : 2 * (m / 2) + 1 ≡ m = omega (arith, e) in q)
byte b h m (suc (suc y)) l k e = absurd (omega arith)

pub from-to : (b : List ℕ) → Bytes 32 b → from_cube (to_cube b) ≡ b
unfolding from_cube
from-to b h = ext_get_or 0 _ b (length-table 32 _ ∙ sym h.0) (λ m l.
    let lm : m < 32 = omega (arith, from-cube-length (to_cube b)) in
    at_table 32 _ m lm ∙ ap (λ v. at (v % 256 ∷ v / 256 ∷ []) (m % 2)) (register_to b (m / 2) h (omega arith)) ∙ byte b h m (m % 2) lm (omega arith) refl)

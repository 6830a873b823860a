-- A counter block as a number: the padded nonce with the counter in its last 95 bits.
use Rattle.std.proofs.Common.{◌≡◌, ℕ, suc, ◌+◌, ◌-◌, ◌*◌, ◌^◌, ◌<◌, ◌≤◌, List, [], ◌∷◌, length, sym, refl, ap, ◌∙◌, arith, pow-add}
use native.Mathlib.Nat.{mul-mul-mul_comm}
use lib.Bits.{bit_xor, xor_block, xor_shifted}
use Rattle.octets.specs.Octets.{Octets, zeros, big_endian, spelt}
use Rattle.octets.proofs.Numbers.{spelt-append, spelt-zeros, spelt-big_endian, big_endian_bytes, length-big_endian}
use Rattle.modes.specs.Bytes.{xor, padded}
use Rattle.modes.specs.Counters.{counter_block, CounterHeld}
use Rattle.modes.proofs.Texts.{length-xor, length-padded, padded-bytes}

spelt-xor : (a b : List ℕ) → length a ≡ length b → Octets a → Octets b → (h k : ℕ) → spelt (xor a b) (bit_xor h k) ≡ bit_xor (spelt a h) (spelt b k)
unfolding spelt xor
spelt-xor [] [] l p q h k = refl
spelt-xor [] (y ∷ b) l p q h k = absurd (omega arith)
spelt-xor (x ∷ a) [] l p q h k = absurd (omega arith)
spelt-xor (x ∷ a) (y ∷ b) l p q h k =
    ap (spelt (xor a b)) (sym (xor_block 8 h k x y (p 0) (q 0)))
    ∙ spelt-xor a b (omega arith) (λ i. p (suc i)) (λ i. q (suc i)) (h * 256 + x) (k * 256 + y)

module _ (nonce : List ℕ) (bytes : Octets nonce) (short : length nonce ≤ 20) where
  small : Octets (padded 32 nonce)
  small = padded-bytes 32 nonce bytes

  long : length (padded 32 nonce) ≡ 32
  long = length-padded 32 nonce (omega arith)

  -- the last 95 bits of a padded nonce are zero
  high : ℕ
  high = (spelt nonce 0 * 2 + 1) * 256 ^ (20 - length nonce)

  padded_high : spelt (padded 32 nonce) 0 ≡ high * 2 ^ 95
  unfolding padded spelt high
  padded_high =
      let s = spelt nonce 0 in
      let x = 256 ^ (20 - length nonce) in
      let q : 31 - length nonce ≡ (20 - length nonce) + 11 = omega arith in
      let e : s * 256 + 128 ≡ (s * 2 + 1) * 128 = omega arith in
      spelt-append nonce (128 ∷ zeros (31 - length nonce)) 0
      ∙ spelt-zeros (31 - length nonce) (s * 256 + 128)
      ∙ ap (λ t. (s * 256 + 128) * 256 ^ t) q
      ∙ ap (λ t. (s * 256 + 128) * t) (pow-add 256 (20 - length nonce) 11)
      ∙ ap (λ t. t * (x * 256 ^ 11)) e
      ∙ mul-mul-mul_comm (s * 2 + 1) 128 x (256 ^ 11)

  module _ (c : ℕ) (fits : c < 2 ^ 95) where
    spelt_counter : spelt (counter_block nonce c) 0 ≡ high * 2 ^ 95 + c
    unfolding counter_block
    spelt_counter =
        let l : length (padded 32 nonce) ≡ length (big_endian 32 c) = long ∙ sym (length-big_endian 32 c) in
        let w : c < 256 ^ 32 = omega arith in
        spelt-xor (padded 32 nonce) (big_endian 32 c) l small (big_endian_bytes 32 c) 0 0
        ∙ ap (λ t. bit_xor t (spelt (big_endian 32 c) 0)) padded_high
        ∙ ap (bit_xor (high * 2 ^ 95)) (spelt-big_endian 32 c w)
        ∙ xor_shifted high 95 c fits

    length_counter : length (counter_block nonce c) ≡ 32
    unfolding counter_block
    length_counter =
        let l : length (padded 32 nonce) ≡ length (big_endian 32 c) = long ∙ sym (length-big_endian 32 c) in
        length-xor (padded 32 nonce) (big_endian 32 c) l ∙ long

    pub counter_held : CounterHeld nonce c
    counter_held = record {
      long = length_counter;
      last = omega (arith, spelt_counter);
      before = omega (arith, spelt_counter, padded_high);
    }

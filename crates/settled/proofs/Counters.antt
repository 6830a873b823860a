-- Counter blocks with counter 1.
use mathlib.Core.Path.{◌≡◌, refl, ◌∙◌, ap}
use mathlib.Core.List.{List, [], ◌∷◌, ◌++◌}
use Prim.Native.Nat.{ℕ, zero, suc, ◌-◌}
use native.Mathlib.Omega.{arith}
use lib.Bits.{bit_xor, xor_zero_r}
use lib.ListN.{length}
use Rattle.octets.specs.Octets.{zeros, big_endian}
use Rattle.modes.specs.Bytes.{xor, padded}
use Rattle.modes.specs.Counters.{counter_block}

xor-append : (a b c d : List ℕ) → length a ≡ length c → xor (a ++ b) (c ++ d) ≡ xor a c ++ xor b d
unfolding xor
xor-append [] b [] d h = refl
xor-append [] b (y ∷ c) d h = absurd (omega arith)
xor-append (x ∷ a) b [] d h = absurd (omega arith)
xor-append (x ∷ a) b (y ∷ c) d h = ap (λ t. bit_xor x y ∷ t) (xor-append a b c d (omega arith))

xor-zeros : (a : List ℕ) (n : ℕ) → length a ≡ n → xor a (zeros n) ≡ a
unfolding xor
xor-zeros [] n h = refl
xor-zeros (x ∷ a) zero h = absurd (omega arith)
xor-zeros (x ∷ a) (suc n) h =
    ap (λ t. t ∷ xor a (zeros n)) (xor_zero_r x) ∙ ap (λ t. x ∷ t) (xor-zeros a n (omega arith))

module _ (nonce : List ℕ) where
  pub counter_16 : length nonce ≡ 16
      → counter_block nonce 1 ≡ nonce ++ (0x80 ∷ (zeros 14 ++ (0x01 ∷ [])))
  unfolding counter_block padded big_endian xor
  counter_16 h =
      let e : 31 - length nonce ≡ 15 = omega arith in
      ap (λ k. xor (nonce ++ (0x80 ∷ zeros k)) (zeros 16 ++ (zeros 15 ++ (1 ∷ [])))) e
      ∙ xor-append nonce (0x80 ∷ zeros 15) (zeros 16) (zeros 15 ++ (1 ∷ [])) h
      ∙ ap (λ t. t ++ (0x80 ∷ (zeros 14 ++ (1 ∷ [])))) (xor-zeros nonce 16 h)

  pub counter_20 : length nonce ≡ 20
      → counter_block nonce 1 ≡ nonce ++ (0x80 ∷ (zeros 10 ++ (0x01 ∷ [])))
  unfolding counter_block padded big_endian xor
  counter_20 h =
      let e : 31 - length nonce ≡ 11 = omega arith in
      ap (λ k. xor (nonce ++ (0x80 ∷ zeros k)) (zeros 20 ++ (zeros 11 ++ (1 ∷ [])))) e
      ∙ xor-append nonce (0x80 ∷ zeros 11) (zeros 20) (zeros 11 ++ (1 ∷ [])) h
      ∙ ap (λ t. t ++ (0x80 ∷ (zeros 10 ++ (1 ∷ [])))) (xor-zeros nonce 20 h)

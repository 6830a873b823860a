-- Bytes one by one, and the bytes of numbers as the standard library has them.
use Rattle.std.proofs.Common.{◌≡◌, ℕ, ◌+◌, ◌*◌, ◌/◌, ◌%◌, List, [], ◌∷◌, map, length, get_or, sym, refl, ap, ◌∙◌, ap₂, arith}
use Rattle.std.proofs.lemmas.List.FromFn.{fill_by_all}
use Rattle.std.specs.List.{range_with_len}
use Rattle.octets.specs.Octets.{big_endian, spelt}

-- bytes one by one, where it is known how many they are
pub one_by_one : (n : ℕ) (bs : List ℕ) → length bs ≡ n → bs ≡ map (λ i. get_or bs i 0) (range_with_len 0 n)
one_by_one n bs h = fill_by_all (λ i. get_or bs i 0) bs n 0 h (λ k l. refl)

-- eight of them, as the standard library has their number
pub spelt_eight : (bs : List ℕ) → length bs ≡ 8
    → get_or bs 0 0 * 72057594037927936 + get_or bs 1 0 * 281474976710656 + get_or bs 2 0 * 1099511627776 + get_or bs 3 0 * 4294967296 + get_or bs 4 0 * 16777216 + get_or bs 5 0 * 65536 + get_or bs 6 0 * 256 + get_or bs 7 0 ≡ spelt bs 0
unfolding spelt
spelt_eight bs h = sym (ap (λ t. spelt t 0) (one_by_one 8 bs h) ∙ omega arith)

-- four bytes of a number, as the standard library has them
pub four_bytes : (n : ℕ) → (n / 16777216 % 256) ∷ (n / 65536 % 256) ∷ (n / 256 % 256) ∷ (n % 256) ∷ [] ≡ big_endian 4 n
unfolding big_endian
four_bytes n =
    let b : n / 65536 ≡ n / 256 / 256 = omega arith in
    let a : n / 16777216 ≡ n / 256 / 256 / 256 = omega arith in
    ap₂ (λ x y. (x % 256) ∷ (y % 256) ∷ (n / 256 % 256) ∷ (n % 256) ∷ []) a b

-- and eight
pub eight_bytes : (n : ℕ) → (n / 72057594037927936 % 256) ∷ (n / 281474976710656 % 256) ∷ (n / 1099511627776 % 256) ∷ (n / 4294967296 % 256) ∷ (n / 16777216 % 256) ∷ (n / 65536 % 256) ∷ (n / 256 % 256) ∷ (n % 256) ∷ [] ≡ big_endian 8 n
unfolding big_endian
eight_bytes n =
    let b : n / 65536 ≡ n / 256 / 256 = omega arith in
    let c : n / 16777216 ≡ n / 256 / 256 / 256 = omega arith in
    let d : n / 4294967296 ≡ n / 256 / 256 / 256 / 256 = omega (arith, c) in
    let e : n / 1099511627776 ≡ n / 256 / 256 / 256 / 256 / 256 = omega (arith, d) in
    let f : n / 281474976710656 ≡ n / 256 / 256 / 256 / 256 / 256 / 256 = omega (arith, e) in
    let g : n / 72057594037927936 ≡ n / 256 / 256 / 256 / 256 / 256 / 256 / 256 = omega (arith, f) in
    rw (b, c, d, e, f, g) refl

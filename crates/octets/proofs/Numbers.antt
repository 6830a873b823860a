-- Zeros, bytes, and numbers in big-endian order.
use Rattle.std.proofs.Common.{◌≡◌, ℕ, zero, suc, ◌+◌, ◌-◌, ◌*◌, ◌/◌, ◌%◌, ◌^◌, ◌<◌, List, [], ◌∷◌, ◌++◌, length, get_or, take, sym, refl, ap, ◌∙◌, inl, inr, mul_assoc, mul_comm, pow-suc, arith}
use native.Mathlib.Nat.{div-div-eq-div-mul}
use Rattle.std.proofs.lemmas.Bool.{cases_lt}
use Rattle.std.proofs.lemmas.List.{length-append, length-take, length-replicate, get_or_append_left, get_or-append_right, get_or-replicate, get_or_past, get_or-take}
use Rattle.octets.specs.Octets.{Octets, zeros, big_endian, spelt}

pub get_or-zeros : (n i : ℕ) → get_or (zeros n) i 0 ≡ 0
get_or-zeros n i =
    elim (cases_lt i n) [ inl h ↦ get_or-replicate n i 0 0 h | inr h ↦ get_or_past (zeros n) i 0 (simp length-replicate h) ]

pub append-bytes : (a b : List ℕ) → Octets a → Octets b → Octets (a ++ b)
append-bytes a b p q i =
    elim (cases_lt i (length a)) [
      | inl h ↦ omega (arith, get_or_append_left a b 0 i h, p i)
      | inr h ↦ omega (arith, get_or-append_right a b (length a) i 0 refl h, q (i - length a))
    ]

pub take-bytes : (xs : List ℕ) (n : ℕ) → Octets xs → Octets (take n xs)
take-bytes xs n b i =
    elim (cases_lt i n) [
      | inl h ↦ omega (arith, get_or-take n xs i 0 h, b i)
      | inr h ↦ omega (arith, get_or_past (take n xs) i 0 (simp length-take (omega arith)))
    ]

pub spelt-append : (a b : List ℕ) (h : ℕ) → spelt (a ++ b) h ≡ spelt b (spelt a h)
unfolding spelt
spelt-append [] b h = refl
spelt-append (x ∷ a) b h = spelt-append a b (h * 256 + x)

pub spelt-zeros : (n h : ℕ) → spelt (zeros n) h ≡ h * 256 ^ n
unfolding spelt
spelt-zeros zero h = omega arith
spelt-zeros (suc n) h =
    let e : h * 256 + 0 ≡ h * 256 = omega arith in
    spelt-zeros n (h * 256 + 0) ∙ ap (λ t. t * 256 ^ n) e ∙ mul_assoc h 256 (256 ^ n) ∙ ap (λ t. h * t) (mul_comm 256 (256 ^ n) ∙ sym (pow-suc 256 n))

pub spelt-big_endian : (n c : ℕ) → c < 256 ^ n → spelt (big_endian n c) 0 ≡ c
unfolding spelt big_endian
spelt-big_endian zero c h = omega arith
spelt-big_endian (suc n) c h =
    let l : c / 256 < 256 ^ n = omega (arith, pow-suc 256 n) in
    spelt-append (big_endian n (c / 256)) (c % 256 ∷ []) 0 ∙ ap (λ t. t * 256 + c % 256) (spelt-big_endian n (c / 256) l) ∙ omega arith

one_byte : (b : ℕ) → b < 256 → Octets (b ∷ [])
one_byte b h zero = h
one_byte b h (suc i) = omega arith

pub big_endian_bytes : (n c : ℕ) → Octets (big_endian n c)
unfolding big_endian
big_endian_bytes zero c = λ i. omega arith
big_endian_bytes (suc n) c = append-bytes (big_endian n (c / 256)) (c % 256 ∷ []) (big_endian_bytes n (c / 256)) (one_byte (c % 256) (omega arith))

pub length-big_endian : (n c : ℕ) → length (big_endian n c) ≡ n
unfolding big_endian
length-big_endian zero c = refl
length-big_endian (suc n) c = length-append (big_endian n (c / 256)) (c % 256 ∷ []) ∙ omega (arith, length-big_endian n (c / 256))

pub wide_is : (n : ℕ) (ys : List ℕ) → n < 2 ^ 64
    → ys ≡ (n / 72057594037927936 % 256) ∷ (n / 281474976710656 % 256) ∷ (n / 1099511627776 % 256) ∷ (n / 4294967296 % 256) ∷ (n / 16777216 % 256) ∷ (n / 65536 % 256) ∷ (n / 256 % 256) ∷ (n % 256) ∷ []
    → zeros 24 ++ ys ≡ big_endian 32 n
unfolding big_endian
wide_is n ys h e =
    let z : n / 18446744073709551616 ≡ 0 = omega arith in
    simp (e, div-div-eq-div-mul, z)

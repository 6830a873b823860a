-- XOR byte by byte, and padding.
use Rattle.std.proofs.Common.{◌≡◌, ℕ, zero, suc, ◌-◌, ◌<◌, List, [], ◌∷◌, ◌++◌, length, get_or, take, drop, set, replicate, sym, refl, ap, ◌∙◌, inl, inr, arith}
use lib.Bits.{bit_xor}
use Rattle.std.proofs.lemmas.Bool.{cases_lt}
use Rattle.std.proofs.lemmas.List.{drop-replicate, set_at, ext_get_or, length-append, length-take, length-replicate, get_or_append_left, get_or-append_right, get_or_at, get_or-take}
use Rattle.octets.specs.Octets.{Octets, zeros}
use Rattle.octets.proofs.Numbers.{get_or-zeros}
use Rattle.modes.specs.Bytes.{xor, padded}

pub length-xor : (a b : List ℕ) → length a ≡ length b → length (xor a b) ≡ length a
unfolding xor
length-xor [] b h = refl
length-xor (x ∷ a) [] h = sym h
length-xor (x ∷ a) (y ∷ b) h = ap suc (length-xor a b (omega arith))

pub get_or-xor : (a b : List ℕ) (i : ℕ) → i < length a → i < length b → get_or (xor a b) i 0 ≡ bit_xor (get_or a i 0) (get_or b i 0)
unfolding xor
get_or-xor [] b i h k = absurd (omega arith)
get_or-xor (x ∷ a) [] i h k = absurd (omega arith)
get_or-xor (x ∷ a) (y ∷ b) zero h k = refl
get_or-xor (x ∷ a) (y ∷ b) (suc i) h k = get_or-xor a b i (omega arith) (omega arith)

pub xor_all : (a b xs : List ℕ) → length xs ≡ 32 → length a ≡ 32 → length b ≡ 32
    → ((k : ℕ) → k < 32 → get_or xs k 0 ≡ bit_xor (get_or a k 0) (get_or b k 0)) → xs ≡ xor a b
xor_all a b xs n la lb h =
    ext_get_or 0 xs (xor a b) (omega (arith, length-xor a b (omega arith)))
    (λ i l. h i (omega arith) ∙ sym (get_or-xor a b i (omega arith) (omega arith)))

pub padded_is : (size : ℕ) (s ys : List ℕ) → length s < size → ys ≡ s → set (ys ++ drop (length s) (replicate size 0)) (length s) 128 ≡ padded size s
unfolding padded
padded_is size s ys l e =
    let m : size - length s ≡ suc (size - 1 - length s) = omega arith in
    ap (λ t. set (t ++ drop (length s) (replicate size 0)) (length s) 128) e
    ∙ ap (λ t. set (s ++ t) (length s) 128) (drop-replicate (length s) size 0 ∙ ap (λ t. replicate t 0) m)
    ∙ set_at s 0 (replicate (size - 1 - length s) 0) 128 (length s) refl

-- the elements of a padded text: before, at and past the padding byte
module _ (size : ℕ) (m : List ℕ) where
  pub length-padded : length m < size → length (padded size m) ≡ size
  unfolding padded
  length-padded h = simp (length-append, length-replicate) (omega arith)

  pub padded_front : (i : ℕ) → i < length m → get_or (padded size m) i 0 ≡ get_or m i 0
  unfolding padded
  padded_front i h = get_or_append_left m (128 ∷ zeros (size - 1 - length m)) 0 i h

  pub padded-here : get_or (padded size m) (length m) 0 ≡ 128
  unfolding padded
  padded-here = get_or_at m 128 (zeros (size - 1 - length m)) 0 (length m) refl

  pub padded_after : (i : ℕ) → length m < i → get_or (padded size m) i 0 ≡ 0
  unfolding padded
  padded_after i h =
      let e : i - length m ≡ suc (i - length m - 1) = omega arith in
      get_or-append_right m (128 ∷ zeros (size - 1 - length m)) (length m) i 0 refl (omega arith)
      ∙ ap (λ k. get_or (128 ∷ zeros (size - 1 - length m)) k 0) e ∙ get_or-zeros (size - 1 - length m) (i - length m - 1)

  pub padded-bytes : Octets m → Octets (padded size m)
  padded-bytes b i =
      elim (cases_lt i (length m)) [
        | inl h ↦ omega (arith, padded_front i h, b i)
        | inr h ↦ elim (cases_lt (length m) i) [
          | inl k ↦ omega (arith, padded_after i k)
          | inr k ↦ let e : i ≡ length m = omega arith in omega (arith, ap (λ j. get_or (padded size m) j 0) e, padded-here)
        ]
      ]

-- a text of which byte n is 0x80, with only zeros after it, is the padded text of its first n bytes
pub is_padded : (bs : List ℕ) (n : ℕ) → n < length bs → get_or bs n 0 ≡ 128 → ((j : ℕ) → n < j → j < length bs → get_or bs j 0 ≡ 0) → bs ≡ padded (length bs) (take n bs)
is_padded bs n h here after =
    let t : length (take n bs) ≡ n = length-take n bs ∙ omega arith in
    let q : length (padded (length bs) (take n bs)) ≡ length bs = length-padded (length bs) (take n bs) (omega arith) in
    ext_get_or 0 bs (padded (length bs) (take n bs)) (sym q)
    (λ i k. elim (cases_lt i n) [
      | inl a ↦ sym (padded_front (length bs) (take n bs) i (omega arith) ∙ get_or-take n bs i 0 a)
      | inr a ↦ elim (cases_lt n i) [
        | inl b ↦ after i b k ∙ sym (padded_after (length bs) (take n bs) i (omega arith))
        | inr b ↦
            let e : i ≡ n = omega arith in
            let f : length (take n bs) ≡ i = omega arith in
            ap (λ j. get_or bs j 0) e ∙ here ∙ sym (padded-here (length bs) (take n bs)) ∙ ap (λ j. get_or (padded (length bs) (take n bs)) j 0) f
      ]
    ])

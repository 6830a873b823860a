-- Counter mode: one byte more, all bytes, and twice.
use Rattle.std.proofs.Common.{◌≡◌, ℕ, ◌+◌, ◌-◌, ◌*◌, ◌/◌, ◌%◌, ◌<◌, ◌≤◌, ◌≢◌, min, List, length, get_or, take, drop, set, refl, sym, ap, ap₂, ◌∙◌, subst, inl, inr, arith, below_more}
use borrow.Rule.Slice.PartMut.{put_mid}
use Rattle.std.proofs.lemmas.Bool.{cases_lt}
use lib.Bits.{bit_xor, xor_assoc, xor_self, xor_zero_r}
use Rattle.std.proofs.lemmas.List.{ext_get_or, get_or-set_same, get_or-set_other, length-take, length-drop, get_or-take, get_or-drop}
use Rattle.octets.specs.Octets.{written}
use Rattle.octets.proofs.Writes.{put_is, get_or-written, get_or-apart}
use Rattle.cipher.specs.Meaning.{BlockFunction}
use Rattle.octets.proofs.Tables.{length-table, at_table, is_table}
use Rattle.modes.specs.Cascade.{keystream, masked, ctr}

module _ (f : BlockFunction) (key nonce xs : List ℕ) where
  pub length-ctr : length (ctr f key nonce xs) ≡ length xs
  unfolding ctr
  length-ctr = length-table (length xs) (masked f key nonce xs)

  pub get_or-ctr : (i : ℕ) → i < length xs → get_or (ctr f key nonce xs) i 0 ≡ masked f key nonce xs i
  unfolding ctr
  get_or-ctr i h = at_table (length xs) (masked f key nonce xs) i h

  pub ctr-all : (ys : List ℕ) → length ys ≡ length xs → ((k : ℕ) → k < length xs → get_or ys k 0 ≡ masked f key nonce xs k) → ys ≡ ctr f key nonce xs
  unfolding ctr
  ctr-all ys l h = is_table (length xs) (masked f key nonce xs) ys l h

-- one block more of counter mode: the text xs is ys by now, and the part of ys from byte 32 i on becomes `part`
module _ (f : BlockFunction) (key nonce xs ys part z : List ℕ) (i end : ℕ) (same : length ys ≡ length xs) (ends : end ≡ min (32 * i + 32) (length xs)) (more : 32 * i < length xs)
    (stream : z ≡ keystream f key nonce i) (size : length part ≡ end - 32 * i)
    (added : (j : ℕ) → j < length (take (end - 32 * i) (drop (32 * i) ys)) → get_or part j 0 ≡ bit_xor (get_or (take (end - 32 * i) (drop (32 * i) ys)) j 0) (get_or z j 0))
    (low : (k : ℕ) → k < 32 * i → k < length xs → get_or ys k 0 ≡ masked f key nonce xs k) (high : (k : ℕ) → 32 * i ≤ k → get_or ys k 0 ≡ get_or xs k 0) where
  abbrev after : List ℕ
  after = put_mid (32 * i) (end - 32 * i) ys part

  fits : 32 * i + length part ≤ length ys
  fits = omega (arith, same, ends, more, size)

  as_written : after ≡ written (32 * i) part ys
  as_written =
      let e : 32 * i + (end - 32 * i) - 32 * i ≡ end - 32 * i = omega arith in
      ap (λ n. put_mid (32 * i) n ys part) (sym e) ∙ put_is (32 * i) (end - 32 * i) ys part part refl size

  here : (j : ℕ) → j < length part → get_or after (32 * i + j) 0 ≡ masked f key nonce xs (32 * i + j)
  unfolding masked
  here j l =
      let whole : length (take (end - 32 * i) (drop (32 * i) ys)) ≡ end - 32 * i = simp (length-take, length-drop) (omega (arith, same, ends, more)) in
      let block : (32 * i + j) / 32 ≡ i = omega (arith, size, ends) in
      let byte : (32 * i + j) % 32 ≡ j = omega (arith, size, ends) in
      ap (λ t. get_or t (32 * i + j) 0) as_written ∙ get_or-written (32 * i) part ys fits j l
      ∙ added j (omega (arith, whole, size))
      ∙ ap (λ t. bit_xor t (get_or z j 0)) (get_or-take (end - 32 * i) (drop (32 * i) ys) j 0 (omega (arith, size)) ∙ get_or-drop (32 * i) ys j 0 ∙ high (32 * i + j) (omega arith))
      ∙ ap (λ t. bit_xor (get_or xs (32 * i + j) 0) (get_or t j 0)) stream
      ∙ ap₂ (λ b y. bit_xor (get_or xs (32 * i + j) 0) (get_or (keystream f key nonce b) y 0)) (sym block) (sym byte)

  pub block_low : (k : ℕ) → k < 32 * (i + 1) → k < length xs → get_or after k 0 ≡ masked f key nonce xs k
  block_low k l m =
      elim (cases_lt k (32 * i)) [
        | inl b ↦ ap (λ t. get_or t k 0) as_written ∙ get_or-apart (32 * i) part ys fits k (inl b) ∙ low k b m
        | inr a ↦
            let e : 32 * i + (k - 32 * i) ≡ k = omega arith in
            subst (λ k. get_or after k 0 ≡ masked f key nonce xs k) e (here (k - 32 * i) (omega (arith, size, ends)))
      ]

  pub block_high : (k : ℕ) → 32 * (i + 1) ≤ k → get_or after k 0 ≡ get_or xs k 0
  block_high k l = ap (λ t. get_or t k 0) as_written ∙ get_or-apart (32 * i) part ys fits k (inr (omega (arith, size, ends))) ∙ high k (omega arith)

-- a text that is turned into another one byte after another, g k at k
module _ (xs : List ℕ) (g : ℕ → ℕ) where
  pub low_more : (ys : List ℕ) (j v : ℕ) → v ≡ g j → j < length ys
      → ((k : ℕ) → k < j → get_or ys k 0 ≡ g k) → (k : ℕ) → k < j + 1 → get_or (set ys j v) k 0 ≡ g k
  low_more ys j v e l low =
      below_more (λ k. get_or (set ys j v) k 0 ≡ g k) j
      (λ k h. let ne : k ≢ j = omega arith in get_or-set_other ys j k v 0 ne ∙ low k h)
      (get_or-set_same ys j v 0 l ∙ e)

  pub high_more : (ys : List ℕ) (j v : ℕ) → ((k : ℕ) → j ≤ k → get_or ys k 0 ≡ get_or xs k 0) → (k : ℕ) → j + 1 ≤ k → get_or (set ys j v) k 0 ≡ get_or xs k 0
  high_more ys j v high k h = let ne : k ≢ j = omega arith in get_or-set_other ys j k v 0 ne ∙ high k (omega arith)

twice : (a z : ℕ) → bit_xor (bit_xor a z) z ≡ a
twice a z = xor_assoc a z z ∙ ap (bit_xor a) (xor_self z) ∙ xor_zero_r a

pub ctr_twice : (f : BlockFunction) (key nonce xs : List ℕ) → ctr f key nonce (ctr f key nonce xs) ≡ xs
unfolding masked
ctr_twice f key nonce xs =
    let ys = ctr f key nonce xs in
    let l : length ys ≡ length xs = length-ctr f key nonce xs in
    let m : length (ctr f key nonce ys) ≡ length ys = length-ctr f key nonce ys in
    ext_get_or 0 (ctr f key nonce ys) xs (m ∙ l)
    (λ i h. get_or-ctr f key nonce ys i (omega arith)
    ∙ ap (λ t. bit_xor t (get_or (keystream f key nonce (i / 32)) (i % 32) 0)) (get_or-ctr f key nonce xs i (omega arith))
    ∙ twice (get_or xs i 0) (get_or (keystream f key nonce (i / 32)) (i % 32) 0))

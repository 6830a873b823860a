-- What a write into a memory leaves.
use Rattle.std.proofs.Common.{◌≡◌, ℕ, ◌+◌, ◌-◌, ◌<◌, ◌≤◌, ◌⊎◌, List, ◌++◌, length, get_or, take, drop, sym, refl, ap, ◌∙◌, ap₂, inl, inr, append_assoc, arith}
use borrow.Rule.Slice.PartMut.{put_mid, post_of, Post-is}
use Rattle.std.proofs.lemmas.List.{length-append, length-take, length-drop, drop-take, drop_at, get_or-take, get_or-drop}
use Rattle.std.proofs.lemmas.Slice.{drop-put_mid, take-put_mid_below, between-put_mid}
use Rattle.octets.specs.Octets.{part, written}

-- a write to a part of a slice, as the checker has it
pub put_is : (at n : ℕ) (xs ys zs : List ℕ) → ys ≡ zs → length zs ≡ n → put_mid at (at + n - at) xs ys ≡ written at zs xs
put_is at n xs ys zs e l =
    ap (λ t. take at xs ++ (t ++ post_of at (at + n - at) xs)) e
    ∙ ap (λ t. take at xs ++ (zs ++ t)) (Post-is at (at + n) xs (omega arith))
    ∙ ap (λ k. take at xs ++ (zs ++ drop (at + k) xs)) (sym l)

-- and a part of one
pub part_is : (from size end : ℕ) (xs : List ℕ) → end ≡ from + size → take (end - from) (drop from xs) ≡ part from size xs
part_is from size end xs e = let k : end - from ≡ size = omega arith in rw k

-- elements are the same where parts of one are
get_or_one : (xs : List ℕ) (i : ℕ) → get_or xs i 0 ≡ get_or (part i 1 xs) 0 0
get_or_one xs i = sym (get_or-take 1 (drop i xs) 0 0 (omega arith) ∙ get_or-drop i xs 0 0 ∙ ap (λ t. get_or xs t 0) (omega arith))

get_or_same : (xs ys : List ℕ) (i : ℕ) → part i 1 xs ≡ part i 1 ys → get_or xs i 0 ≡ get_or ys i 0
get_or_same xs ys i e = get_or_one xs i ∙ ap (λ t. get_or t 0 0) e ∙ sym (get_or_one ys i)

module _ (at : ℕ) (bytes memory : List ℕ) (fits : at + length bytes ≤ length memory) where
  n : ℕ
  n = at + length bytes - at

  as_put : written at bytes memory ≡ put_mid at n memory bytes
  unfolding n
  as_put = sym (put_is at (length bytes) memory bytes bytes refl refl)

  long : length bytes ≡ n
  unfolding n
  long = omega arith

  pub length-written : length (written at bytes memory) ≡ length memory
  length-written = simp (length-append, length-take, length-drop) (omega arith)

  pub drop-written : (k : ℕ) → at + length bytes ≤ k → drop k (written at bytes memory) ≡ drop k memory
  drop-written k h = ap (drop k) as_put ∙ drop-put_mid at n memory bytes k (omega (arith, long)) (omega arith) long

  pub part_below : (from size : ℕ) → from + size ≤ at → part from size (written at bytes memory) ≡ part from size memory
  part_below from size h =
      sym (drop-take from size (written at bytes memory))
      ∙ ap (λ t. drop from (take (from + size) t)) as_put
      ∙ ap (drop from) (take-put_mid_below at n memory bytes (from + size) h (omega arith))
      ∙ drop-take from size memory

  pub part_above : (from size : ℕ) → at + length bytes ≤ from → part from size (written at bytes memory) ≡ part from size memory
  part_above from size h = ap (take size) (drop-written from h)

  pub part-written : (size : ℕ) → size ≡ length bytes → part at size (written at bytes memory) ≡ bytes
  part-written size e =
      ap (part at size) as_put
      ∙ sym (part_is at size (at + size) (put_mid at n memory bytes) refl)
      ∙ between-put_mid at n memory bytes (at + size) (omega arith) (omega arith)

  pub get_or-written : (i : ℕ) → i < length bytes → get_or (written at bytes memory) (at + i) 0 ≡ get_or bytes i 0
  get_or-written i h =
      sym (get_or-drop at (written at bytes memory) i 0)
      ∙ sym (get_or-take (length bytes) (drop at (written at bytes memory)) i 0 h)
      ∙ ap (λ t. get_or t i 0) (part-written (length bytes) refl)

  pub get_or-apart : (i : ℕ) → (i < at) ⊎ (at + length bytes ≤ i) → get_or (written at bytes memory) i 0 ≡ get_or memory i 0
  get_or-apart i (inl h) = get_or_same (written at bytes memory) memory i (part_below i 1 (omega arith))
  get_or-apart i (inr h) = get_or_same (written at bytes memory) memory i (part_above i 1 h)

-- one write before another
pub written-before : (at : ℕ) (first second memory : List ℕ) → at + length first + length second ≤ length memory → written at first (written (at + length first) second memory) ≡ written at (first ++ second) memory
written-before at first second memory h =
    let later : List ℕ = written (at + length first) second memory in
    let t : take at later ≡ take at memory = part_below (at + length first) second memory h 0 at (omega arith) in
    let front : length (take (at + length first) memory) ≡ at + length first = length-take (at + length first) memory ∙ omega arith in
    let d : drop (at + length first) later ≡ second ++ drop (at + length (first ++ second)) memory =
    drop_at (take (at + length first) memory) (second ++ drop (at + length first + length second) memory) (at + length first) front
    ∙ ap (λ n. second ++ drop n memory) (simp length-append (omega arith)) in
    ap₂ (λ a b. a ++ (first ++ b)) t d ∙ ap (λ r. take at memory ++ r) (sym (append_assoc first second (drop (at + length (first ++ second)) memory)))

-- A locked file by its parts.
use Rattle.std.proofs.Common.{◌≡◌, ℕ, ◌+◌, ◌-◌, ◌≤◌, List, [], ◌++◌, length, take, drop, sym, refl, ap, ◌∙◌, append_assoc, append-nil, arith}
use borrow.Rule.Slice.PartMut.{put_mid}
use Rattle.std.proofs.lemmas.List.{length-append, length-take, length-drop, take_at, drop_at, take-append-drop, drop-drop, drop_all}

pub put_end : (at : ℕ) (xs ys : List ℕ) → at ≤ length xs → put_mid at (length xs - at) xs ys ≡ take at xs ++ ys
put_end at xs ys h =
    ap (λ t. take at xs ++ (ys ++ t)) (drop_all (length xs - at) (drop at xs) (simp length-drop (omega arith))) ∙ ap (λ t. take at xs ++ t) (append-nil ys)

pub end_long : (at n : ℕ) (xs : List ℕ) → length xs ≡ at + n → length (take (length xs - at) (drop at xs)) ≡ n
end_long at n xs e = simp (length-take, length-drop) (omega arith)

-- what is written after a front
after_front : (front rest src file : List ℕ) (at : ℕ) → file ≡ front ++ rest → length front ≡ at
    → take at file ++ (src ++ drop (at + length src) file) ≡ (front ++ src) ++ drop (length src) rest
after_front front rest src file at e l =
    ap (λ t. take at t ++ (src ++ drop (at + length src) t)) e
    ∙ ap (λ t. t ++ (src ++ drop (at + length src) (front ++ rest))) (take_at front rest at l)
    ∙ ap (λ t. front ++ (src ++ t)) (sym (drop-drop (length src) at (front ++ rest)) ∙ ap (drop (length src)) (drop_at front rest at l))
    ∙ sym (append_assoc front src (drop (length src) rest))

pub laid_out : (magic nonce tag text head f0 f1 f2 f3 : List ℕ) → length magic ≡ 4 → length nonce ≡ 20 → length tag ≡ 32 → length head ≡ 56 → f0 ≡ head ++ text
    → f1 ≡ take 0 f0 ++ (magic ++ drop (0 + length magic) f0) → f2 ≡ take 4 f1 ++ (nonce ++ drop (4 + length nonce) f1) → f3 ≡ take 24 f2 ++ (tag ++ drop (24 + length tag) f2)
    → f3 ≡ magic ++ (nonce ++ (tag ++ text))
laid_out magic nonce tag text head f0 f1 f2 f3 lm ln lt lh e0 e1 e2 e3 =
    let g1 : f1 ≡ magic ++ drop (length magic) f0 = e1 ∙ after_front [] f0 magic f0 0 refl refl in
    let g2 : f2 ≡ (magic ++ nonce) ++ drop (length nonce) (drop (length magic) f0) = e2 ∙ after_front magic (drop (length magic) f0) nonce f1 4 g1 lm in
    let g3 : f3 ≡ ((magic ++ nonce) ++ tag) ++ drop (length tag) (drop (length nonce) (drop (length magic) f0)) =
    e3 ∙ after_front (magic ++ nonce) (drop (length nonce) (drop (length magic) f0)) tag f2 24 g2 (simp length-append (omega arith)) in
    let d : drop (length tag) (drop (length nonce) (drop (length magic) f0)) ≡ text =
    ap (drop (length tag)) (drop-drop (length nonce) (length magic) f0) ∙ drop-drop (length tag) (length magic + length nonce) f0
    ∙ (let k : length magic + length nonce + length tag ≡ 56 = omega arith in ap (λ n. drop n f0) k) ∙ ap (drop 56) e0 ∙ drop_at head text 56 lh in
    g3 ∙ ap (λ t. ((magic ++ nonce) ++ tag) ++ t) d ∙ append_assoc (magic ++ nonce) tag text ∙ append_assoc magic nonce (tag ++ text)

-- the parts of a file of at least 56 bytes, and of one that is laid out
pub in_parts : (file : List ℕ) → file ≡ take 4 file ++ (take 20 (drop 4 file) ++ (take 32 (drop 24 file) ++ drop 56 file))
in_parts file =
    sym (take-append-drop 4 file)
    ∙ ap (λ t. take 4 file ++ t) (sym (take-append-drop 20 (drop 4 file)) ∙ ap (λ t. take 20 (drop 4 file) ++ t)
    (drop-drop 20 4 file ∙ sym (take-append-drop 32 (drop 24 file)) ∙ ap (λ t. take 32 (drop 24 file) ++ t) (drop-drop 32 24 file)))

module _ (magic nonce rest : List ℕ) (lm : length magic ≡ 4) (ln : length nonce ≡ 20) where
  pub part-magic : take 4 (magic ++ (nonce ++ rest)) ≡ magic
  part-magic = take_at magic (nonce ++ rest) 4 lm

  after_magic : drop 4 (magic ++ (nonce ++ rest)) ≡ nonce ++ rest
  after_magic = drop_at magic (nonce ++ rest) 4 lm

  pub part-nonce : take 20 (drop 4 (magic ++ (nonce ++ rest))) ≡ nonce
  part-nonce = ap (take 20) after_magic ∙ take_at nonce rest 20 ln

  pub part_rest : drop 24 (magic ++ (nonce ++ rest)) ≡ rest
  part_rest = sym (drop-drop 20 4 (magic ++ (nonce ++ rest))) ∙ ap (drop 20) after_magic ∙ drop_at nonce rest 20 ln

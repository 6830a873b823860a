-- Bytes by the number that they spell.
use Rattle.std.proofs.Common.{◌≡◌, ℕ, suc, ◌+◌, ◌*◌, ◌/◌, ◌%◌, ◌<◌, List, [], ◌∷◌, ◌++◌, length, sym, ap, ◌∙◌, ap₂, append_assoc, arith}
use Rattle.std.proofs.lemmas.List.{append-nil}
use Rattle.octets.specs.Octets.{Octets, big_endian, spelt}

-- bytes after a number of k more, as one number
after : (k h : ℕ) (bs : List ℕ) → Octets bs → big_endian (k + length bs) (spelt bs h) ≡ big_endian k h ++ bs
unfolding spelt big_endian
after k h [] o =
    let e : k + 0 ≡ k = omega arith in
    ap (λ n. big_endian n h) e ∙ sym (append-nil (big_endian k h))
after k h (b ∷ bs) o =
    let e : k + suc (length bs) ≡ suc k + length bs = omega arith in
    let byte : b < 256 = o 0 in
    let before : (h * 256 + b) / 256 ≡ h = omega arith in
    let last : (h * 256 + b) % 256 ≡ b = omega arith in
    ap (λ n. big_endian n (spelt bs (h * 256 + b))) e
    ∙ after (suc k) (h * 256 + b) bs (λ i. o (suc i))
    ∙ ap₂ (λ x y. (big_endian k x ++ (y ∷ [])) ++ bs) before last
    ∙ append_assoc (big_endian k h) (b ∷ []) bs

pub big_endian-spelt : (bs : List ℕ) → Octets bs → big_endian (length bs) (spelt bs 0) ≡ bs
unfolding big_endian
big_endian-spelt bs o =
    let e : length bs ≡ 0 + length bs = omega arith in
    ap (λ n. big_endian n (spelt bs 0)) e ∙ after 0 0 bs o

-- Where the parts of a record lie, and how writes lay it out.
use Rattle.std.proofs.Common.{◌≡◌, ℕ, ◌+◌, ◌-◌, ◌*◌, ◌≤◌, List, [], ◌++◌, length, get_or, take, drop, sym, refl, ap, ◌∙◌, ap₂, arith}
use Rattle.std.proofs.lemmas.List.{length-append, length-replicate, take_at, drop_at, append_assoc, append-nil, replicate-append-replicate, take-take, drop-take, drop-drop}
use Rattle.std.specs.List.{slice_range}
use Rattle.octets.specs.Octets.{zeros, spelt, part, written}
use Rattle.octets.proofs.Bytewise.{one_by_one}
use Rattle.octets.proofs.Writes.{part_is}
use Rattle.records.specs.Records.{length_in, text_in, filling_in}

-- the part b of a text in three parts, and the part c of one in four
pub part_at : (a b c : List ℕ) (from size : ℕ) → length a ≡ from → length b ≡ size → part from size (a ++ (b ++ c)) ≡ b
part_at a b c from size h k = ap (take size) (drop_at a (b ++ c) from h) ∙ take_at b c size k

part_after : (a b c d : List ℕ) (from size : ℕ) → length a + length b ≡ from → length c ≡ size → part from size (a ++ (b ++ (c ++ d))) ≡ c
part_after a b c d from size h k =
    ap (part from size) (sym (append_assoc a b (c ++ d))) ∙ part_at (a ++ b) c d from size (length-append a b ∙ h) k

pub record Layout (sign number label size text filling end record' : List ℕ) : Type 0 where
  pub nonce_is : take 16 record' ≡ sign ++ number
  pub number_is : part 8 8 record' ≡ number
  pub label_is : part 16 46 record' ≡ label
  pub size_is : part 62 2 record' ≡ size
  pub head_is : part 16 48 record' ≡ label ++ size
  pub front_is : take 64 record' ≡ (sign ++ number) ++ (label ++ size)
  pub text_is : part 64 (length text) record' ≡ text
  pub filling_is : part (64 + length text) (928 - length text) record' ≡ filling
  pub back_is : drop (64 + length text) record' ≡ filling ++ end
  pub tag_is : drop 992 record' ≡ end

pub layout : (sign number label size text filling end : List ℕ)
    → length sign ≡ 8 → length number ≡ 8 → length label ≡ 46 → length size ≡ 2 → length text ≤ 928 → length filling ≡ 928 - length text
    → Layout sign number label size text filling end ((sign ++ number) ++ ((label ++ size) ++ (text ++ (filling ++ end))))
layout sign number label size text filling end s8 n8 l46 z2 t928 f928 =
    record {
      nonce_is = take_at nonce _ 16 nonce16;
      number_is = ap (part 8 8) (append_assoc sign number _) ∙ part_at sign number _ 8 8 s8 n8;
      label_is = ap (λ r. part 16 46 (nonce ++ r)) (append_assoc label size _) ∙ part_at nonce label _ 16 46 nonce16 l46;
      size_is = ap (λ r. part 62 2 (nonce ++ r)) (append_assoc label size _) ∙ part_after nonce label size _ 62 2 (omega (arith, nonce16)) z2;
      head_is = part_at nonce head _ 16 48 nonce16 head48;
      front_is = ap (take 64) front ∙ take_at (nonce ++ head) _ 64 front64;
      text_is = part_after nonce head text _ 64 _ (omega (arith, nonce16, head48)) refl;
      filling_is = ap (part (64 + length text) (928 - length text)) front ∙ part_after (nonce ++ head) text filling end _ _ (omega (arith, front64)) f928;
      back_is = ap (drop (64 + length text)) deep ∙ drop_at ((nonce ++ head) ++ text) _ _ (omega (arith, front64, length-append (nonce ++ head) text));
      tag_is = ap (drop 992) (deep ∙ sym (append_assoc ((nonce ++ head) ++ text) filling end))
          ∙ drop_at (((nonce ++ head) ++ text) ++ filling) end 992
          (omega (arith, front64, length-append (nonce ++ head) text, length-append ((nonce ++ head) ++ text) filling));
    }
  where
    nonce : List ℕ
    nonce = sign ++ number

    head : List ℕ
    head = label ++ size

    nonce16 : length nonce ≡ 16
    nonce16 = omega (arith, length-append sign number)

    head48 : length head ≡ 48
    head48 = omega (arith, length-append label size)

    front64 : length (nonce ++ head) ≡ 64
    front64 = omega (arith, length-append nonce head, nonce16, head48)

    front : nonce ++ (head ++ (text ++ (filling ++ end))) ≡ (nonce ++ head) ++ (text ++ (filling ++ end))
    front = sym (append_assoc nonce head _)

    deep : nonce ++ (head ++ (text ++ (filling ++ end))) ≡ ((nonce ++ head) ++ text) ++ (filling ++ end)
    deep = front ∙ sym (append_assoc (nonce ++ head) text _)

-- two bytes, as the standard library has their number
pub spelt_two : (bs : List ℕ) → length bs ≡ 2 → get_or bs 0 0 * 256 + get_or bs 1 0 ≡ spelt bs 0
unfolding spelt
spelt_two bs h = sym (ap (λ t. spelt t 0) (one_by_one 2 bs h) ∙ omega arith)

-- a write in place of so many bytes
pub written_over : (a old c b : List ℕ) (from : ℕ) → length a ≡ from → length b ≡ length old
    → written from b (a ++ (old ++ c)) ≡ a ++ (b ++ c)
written_over a old c b from la lb =
    ap₂ (λ x y. x ++ (b ++ y)) (take_at a (old ++ c) from la)
    (ap (drop (from + length b)) (sym (append_assoc a old c))
    ∙ drop_at (a ++ old) c (from + length b) (length-append a old ∙ omega (arith, la, lb)))

zeros-append : (m n k : ℕ) → m + n ≡ k → zeros k ≡ zeros m ++ zeros n
zeros-append m n k e = ap zeros (sym e) ∙ sym (replicate-append-replicate m n 0)

module _ (nonce label size r0 r1 r2 r3 : List ℕ) (n16 : length nonce ≡ 16) (l46 : length label ≡ 46) (s2 : length size ≡ 2)
    (e0 : r0 ≡ zeros 1024) (e1 : r1 ≡ written 0 nonce r0) (e2 : r2 ≡ written 16 label r1) (e3 : r3 ≡ written 62 size r2) where
  nonce_laid : r1 ≡ nonce ++ zeros 1008
  nonce_laid =
      e1 ∙ ap (written 0 nonce) (e0 ∙ zeros-append 16 1008 1024 refl)
      ∙ written_over [] (zeros 16) (zeros 1008) nonce 0 refl (n16 ∙ sym (length-replicate {A = ℕ} 16 0))

  label_laid : r2 ≡ nonce ++ (label ++ zeros 962)
  label_laid =
      e2 ∙ ap (written 16 label) (nonce_laid ∙ ap (λ z. nonce ++ z) (zeros-append 46 962 1008 refl))
      ∙ written_over nonce (zeros 46) (zeros 962) label 16 n16 (l46 ∙ sym (length-replicate {A = ℕ} 46 0))

  pub begun : r3 ≡ nonce ++ ((label ++ size) ++ zeros 960)
  begun =
      e3 ∙ ap (written 62 size) (label_laid ∙ ap (λ z. nonce ++ (label ++ z)) (zeros-append 2 960 962 refl) ∙ sym (append_assoc nonce label _))
      ∙ written_over (nonce ++ label) (zeros 2) (zeros 960) size 62 (length-append nonce label ∙ omega (arith, n16, l46)) (s2 ∙ sym (length-replicate {A = ℕ} 2 0))
      ∙ append_assoc nonce label _ ∙ ap (λ t. nonce ++ t) (sym (append_assoc label size _))

-- a text and a tag written into a record that was begun
module _ (nonce head text end r0 r1 r2 : List ℕ) (n16 : length nonce ≡ 16) (h48 : length head ≡ 48) (t928 : length text ≤ 928) (e32 : length end ≡ 32)
    (e0 : r0 ≡ nonce ++ (head ++ zeros 960)) (e1 : r1 ≡ written 64 text r0) (e2 : r2 ≡ written 992 end r1) where
  front : List ℕ
  front = nonce ++ head

  filling : List ℕ
  filling = zeros (928 - length text)

  front64 : length front ≡ 64
  unfolding front
  front64 = length-append nonce head ∙ omega (arith, n16, h48)

  room : zeros 960 ≡ zeros (length text) ++ (filling ++ zeros 32)
  unfolding filling
  room =
      zeros-append (length text) (928 - length text + 32) 960 (omega arith)
      ∙ ap (λ z. zeros (length text) ++ z) (zeros-append (928 - length text) 32 (928 - length text + 32) refl)

  text_laid : r1 ≡ front ++ (text ++ (filling ++ zeros 32))
  unfolding front filling
  text_laid =
      e1 ∙ ap (written 64 text) (e0 ∙ sym (append_assoc nonce head _) ∙ ap (λ z. front ++ z) room)
      ∙ written_over front (zeros (length text)) (filling ++ zeros 32) text 64 front64 (sym (length-replicate {A = ℕ} (length text) 0))

  before : List ℕ
  before = (front ++ text) ++ filling

  before_long : length before ≡ 992
  unfolding before filling
  before_long =
      length-append (front ++ text) filling ∙ omega (arith, length-append front text, front64, length-replicate {A = ℕ} (928 - length text) 0)

  regroup : (z : List ℕ) → front ++ (text ++ (filling ++ z)) ≡ before ++ z
  unfolding before
  regroup z = sym (append_assoc front text _) ∙ sym (append_assoc (front ++ text) filling z)

  pub finished : r2 ≡ nonce ++ (head ++ (text ++ (zeros (928 - length text) ++ end)))
  unfolding front filling
  finished =
      e2 ∙ ap (written 992 end) (text_laid ∙ regroup (zeros 32) ∙ ap (λ z. before ++ z) (sym (append-nil (zeros 32))))
      ∙ written_over before (zeros 32) [] end 992 before_long (e32 ∙ sym (length-replicate {A = ℕ} 32 0))
      ∙ ap (λ z. before ++ z) (append-nil end) ∙ sym (regroup end) ∙ append_assoc nonce head _

-- text and filling, out of the bytes that they take together
module _ (bytes room : List ℕ) (n : ℕ) (is : n ≡ length_in bytes) (shown : room ≡ part 64 928 bytes) (long : length room ≡ 928) where
  pub text_shown : n ≤ 928 → slice_range room 0 n ≡ text_in bytes
  text_shown h =
      part_is 0 n n room (omega arith) ∙ ap (take n) shown ∙ take-take n 928 (drop 64 bytes) h ∙ ap (λ k. part 64 k bytes) is

  pub filling_shown : n ≤ 928 → slice_range room n (length room) ≡ filling_in bytes
  filling_shown h =
      let left : 928 ≡ n + (928 - n) = omega arith in
      part_is n (928 - n) (length room) room (omega (arith, long))
      ∙ ap (λ r. take (928 - n) (drop n r)) (shown ∙ ap (λ k. take k (drop 64 bytes)) left)
      ∙ ap (take (928 - n)) (drop-take n (928 - n) (drop 64 bytes) ∙ ap (take (928 - n)) (drop-drop n 64 bytes))
      ∙ take-take (928 - n) (928 - n) (drop (64 + n) bytes) (omega arith)
      ∙ ap (λ k. part (64 + k) (928 - k) bytes) is

-- Bytes into words and back.
use Rattle.std.proofs.Common.{◌≡◌, ℕ, zero, suc, ◌+◌, ◌*◌, ◌/◌, ◌%◌, ◌^◌, ◌<◌, List, [], ◌∷◌, length, set, sym, refl, ap, ◌∙◌, ap₂, inl, inr, add-zero, arith, length-set, get_or-set_other, get_or-set_same}
use Rattle.std.proofs.lemmas.List.{ext_get_or}
use Rattle.std.proofs.lemmas.Bool.{cases_eq}
use Rattle.saturnin.proofs.Conversions.{from-cube-length}
use Rattle.std.proofs.lemmas.Nat.{shr-shr}
use Rattle.saturnin.specs.Bits.{bit, nibble}
use Rattle.octets.specs.Lists.{at}
use Rattle.saturnin.specs.Cube.{register, word, to_cube, cube_register, from_cube}
use Rattle.saturnin.proofs.Bits.{bit_lt, bit_shr, same_below}
use Rattle.octets.proofs.Tables.{at_table}
use Rattle.saturnin.proofs.Numbers.{four, number_same, number_bit, bit-nibble}
use Rattle.saturnin_words.specs.Words.{across, quad, cube_of}
use Rattle.saturnin_words.specs.declared.quad.Quad.{Quad}
use Rattle.saturnin_words.specs.declared.state.State.{State}
use Rattle.saturnin_words.proofs.Places.{read, at_place, by_rows}
use Rattle.saturnin_words.proofs.Halves.{low_bit, high_bit}

-- the halves of a word are registers
module _ (bs : List ℕ) (small : (i : ℕ) → at bs i < 256) where
  halves : (j : ℕ) → (word bs j % 65536 ≡ register bs j) × (word bs j / 65536 ≡ register bs (j + 8))
  unfolding word register
  halves j = let x = small (2 * j) in let y = small (2 * j + 1) in (omega (arith, x, y), omega (arith, x, y))

  row_low : (q : Quad) (j b : ℕ) → b < 16 → q.a ≡ word bs j → q.b ≡ word bs (j + 1) → q.c ≡ word bs (j + 2) → q.d ≡ word bs (j + 3)
      → quad q b ≡ nibble (bit (register bs j) b) (bit (register bs (j + 1)) b) (bit (register bs (j + 2)) b) (bit (register bs (j + 3)) b)
  unfolding across
  row_low q j b h e0 e1 e2 e3 = rw (one q.a j e0, one q.b (j + 1) e1, one q.c (j + 2) e2, one q.d (j + 3) e3)
    where
      one : (x k : ℕ) → x ≡ word bs k → bit x b ≡ bit (register bs k) b
      one x k e = ap (λ v. bit v b) e ∙ low_bit (word bs k) b h ∙ ap (λ v. bit v b) (halves k).0

  row_high : (q : Quad) (j b : ℕ) → q.a ≡ word bs j → q.b ≡ word bs (j + 1) → q.c ≡ word bs (j + 2) → q.d ≡ word bs (j + 3)
      → quad q (b + 16) ≡ nibble (bit (register bs (j + 8)) b) (bit (register bs (j + 1 + 8)) b) (bit (register bs (j + 2 + 8)) b) (bit (register bs (j + 3 + 8)) b)
  unfolding across
  row_high q j b e0 e1 e2 e3 = rw (one q.a j e0, one q.b (j + 1) e1, one q.c (j + 2) e2, one q.d (j + 3) e3)
    where
      one : (x k : ℕ) → x ≡ word bs k → bit x (b + 16) ≡ bit (register bs (k + 8)) b
      one x k e = ap (λ v. bit v (b + 16)) e ∙ high_bit (word bs k) b ∙ ap (λ v. bit v b) (halves k).1

  pub loaded : (w : State) → w.even.a ≡ word bs 0 → w.even.b ≡ word bs 1 → w.even.c ≡ word bs 2 → w.even.d ≡ word bs 3
      → w.odd.a ≡ word bs 4 → w.odd.b ≡ word bs 5 → w.odd.c ≡ word bs 6 → w.odd.d ≡ word bs 7 → cube_of w ≡ to_cube bs
  unfolding to_cube
  loaded w e0 e1 e2 e3 e4 e5 e6 e7 =
      by_rows w (λ y b. nibble (bit (register bs (4 * y + 0)) b) (bit (register bs (4 * y + 1)) b) (bit (register bs (4 * y + 2)) b) (bit (register bs (4 * y + 3)) b))
      (λ b h. row_low w.even 0 b h e0 e1 e2 e3) (λ b h. row_low w.odd 4 b h e4 e5 e6 e7)
      (λ b h. row_high w.even 0 b e0 e1 e2 e3) (λ b h. row_high w.odd 4 b e4 e5 e6 e7)

-- the eight words
abbrev pub words : State → List ℕ
words w = w.even.a ∷ w.even.b ∷ w.even.c ∷ w.even.d ∷ w.odd.a ∷ w.odd.b ∷ w.odd.c ∷ w.odd.d ∷ []

-- bit k of a nibble is a bit of the k-th of its four words
across-bit : (a b c d p k : ℕ) → k < 4 → bit (across a b c d p) k ≡ bit (at (a ∷ b ∷ c ∷ d ∷ []) k) p
unfolding across
across-bit a b c d p k h = bit-nibble (λ k. bit (at (a ∷ b ∷ c ∷ d ∷ []) k) p) (λ k. bit_lt _ p) k h

nibble-bit : (w : State) (p m k : ℕ) → m < 2 → k < 4 → bit (read w m p) k ≡ bit (at (words w) (4 * m + k)) p
nibble-bit w p zero k h l = across-bit _ _ _ _ p k l
    ∙ four (λ k. bit (at (w.even.a ∷ w.even.b ∷ w.even.c ∷ w.even.d ∷ []) k) p ≡ bit (at (words w) (4 * 0 + k)) p) refl refl refl refl k l
nibble-bit w p (suc zero) k h l = across-bit _ _ _ _ p k l
    ∙ four (λ k. bit (at (w.odd.a ∷ w.odd.b ∷ w.odd.c ∷ w.odd.d ∷ []) k) p ≡ bit (at (words w) (4 * 1 + k)) p) refl refl refl refl k l
nibble-bit w p (suc (suc m)) k h l = absurd (omega arith)

row_at : (w : State) (q b : ℕ) → q < 4 → b < 16 → at (cube_of w) (q + 4 * b) ≡ read w (q % 2) (16 * (q / 2) + b)
row_at w q b h l = at_place w (q + 4 * b) (q % 2) (16 * (q / 2) + b) (omega arith) (omega arith) (omega arith)

-- the registers of the cube are halves of the words
register_is : (w : State) (g : ℕ) → g < 16 → cube_register (cube_of w) g ≡ at (words w) (g % 8) / 2 ^ (16 * (g / 8)) % 2 ^ 16
unfolding cube_register
register_is w g h =
    let X : ℕ = at (words w) (g % 8) in
    number_same _ (bit (X / 2 ^ (16 * (g / 8)))) 16 (λ b l.
    let n : g / 4 / 2 ≡ g / 8 = same_below (λ g. g / 4 / 2) (λ g. g / 8) 16 tt g h in
    let k : 4 * (g / 4 % 2) + g % 4 ≡ g % 8 = same_below (λ g. 4 * (g / 4 % 2) + g % 4) (λ g. g % 8) 16 tt g h in
    ap (λ v. bit v (g % 4)) (row_at w (g / 4) b (omega arith) l)
    ∙ nibble-bit w (16 * (g / 4 / 2) + b) (g / 4 % 2) (g % 4) (omega arith) (omega arith)
    ∙ ap₂ (λ u v. bit (at (words w) u) (16 * v + b)) k n
    ∙ sym (bit_shr X (16 * (g / 8)) b))
    ∙ number_bit (X / 2 ^ (16 * (g / 8))) 16

-- byte k of eight words: it stands in word k / 2 mod 8, low or high in the lower or in the upper half
pub byte : (ws : List ℕ) (k : ℕ) → ℕ
byte ws k = at ws (k / 2 % 8) / 2 ^ (16 * (k / 16) + 8 * (k % 2)) % 256

pub byte_is : (w : State) (k : ℕ) → k < 32 → byte (words w) k ≡ at (from_cube (cube_of w)) k
unfolding byte from_cube
byte_is w k h =
    half (k % 2) (at (words w) (k / 2 % 8)) (16 * (k / 16)) (cube_register (cube_of w) (k / 2)) (omega arith)
    (register_is w (k / 2) (omega arith) ∙ ap (λ v. at (words w) (k / 2 % 8) / 2 ^ (16 * v) % 2 ^ 16) (same_below (λ k. k / 2 / 8) (λ k. k / 16) 32 tt k h))
    ∙ sym (at_table 32 _ k h)
  where
    half : (y X s r : ℕ) → y < 2 → r ≡ X / 2 ^ s % 2 ^ 16 → X / 2 ^ (s + 8 * y) % 256 ≡ at (r % 256 ∷ r / 256 ∷ []) y
    half zero X s r l e = rw add-zero (let v : ℕ = X / 2 ^ s in let f : r ≡ v % 65536 = e in let g : v % 256 ≡ r % 256 = omega arith in g)
    half (suc zero) X s r l e =
        let v : ℕ = X / 2 ^ s in let f : r ≡ v % 65536 = e in let g : v / 256 % 256 ≡ r / 256 = omega arith in
        ap (λ x. x % 256) (sym (shr-shr X s 8)) ∙ g
    half (suc (suc y)) X s r l e = absurd (omega arith)

-- the four bytes of word j
byte_at : (ws : List ℕ) (j k s : ℕ) → k / 2 % 8 ≡ j → 16 * (k / 16) + 8 * (k % 2) ≡ s → byte ws k ≡ at ws j / 2 ^ s % 256
unfolding byte
byte_at ws j k s e f = ap₂ (λ j s. at ws j / 2 ^ s % 256) e f

bytes_of : (ws : List ℕ) (j : ℕ) → j < 8 → (byte ws (2 * j) ≡ at ws j % 256) × (byte ws (2 * j + 1) ≡ at ws j / 256 % 256)
    × (byte ws (2 * j + 16) ≡ at ws j / 65536 % 256) × (byte ws (2 * j + 17) ≡ at ws j / 16777216 % 256)
bytes_of ws j h = (
  byte_at ws j (2 * j) 0 (omega arith) (omega arith) ∙ omega arith,
  byte_at ws j (2 * j + 1) 8 (omega arith) (omega arith),
  byte_at ws j (2 * j + 16) 16 (omega arith) (omega arith),
  byte_at ws j (2 * j + 17) 24 (omega arith) (omega arith),
)

-- a byte that is none of the four stands in another word
elsewhere : (k j : ℕ) → k < 32 → k / 2 % 8 < j + 1 → (k ≡ 2 * j → ⊥) → (k ≡ 2 * j + 1 → ⊥) → (k ≡ 2 * j + 16 → ⊥) → (k ≡ 2 * j + 17 → ⊥) → k / 2 % 8 < j
elsewhere k j h l n0 n1 n2 n3 =
    let q : ℕ = k / 2 % 8 in
    let e : 16 * (k / 16) + 2 * q + k % 2 ≡ k = same_below (λ k. 16 * (k / 16) + 2 * (k / 2 % 8) + k % 2) (λ k. k) 32 tt k h in
    away (k / 16) q (k % 2) k j (omega arith) (omega arith) e l n0 n1 n2 n3
  where
    away : (a q b k j : ℕ) → a < 2 → b < 2 → 16 * a + 2 * q + b ≡ k → q < j + 1 → (k ≡ 2 * j → ⊥) → (k ≡ 2 * j + 1 → ⊥) → (k ≡ 2 * j + 16 → ⊥) → (k ≡ 2 * j + 17 → ⊥) → q < j
    away a q b k j ha hb e l n0 n1 n2 n3 = omega (arith, n0, n1, n2, n3)

-- one word more is stored
pub word_more : (ws out : List ℕ) (j : ℕ) → j < 8 → length out ≡ 32 → ((k : ℕ) → k < 32 → k / 2 % 8 < j → at out k ≡ byte ws k)
    → (b0 b1 b2 b3 : ℕ) → b0 ≡ at ws j % 256 → b1 ≡ at ws j / 256 % 256 → b2 ≡ at ws j / 65536 % 256 → b3 ≡ at ws j / 16777216 % 256
    → (k : ℕ) → k < 32 → k / 2 % 8 < j + 1 → at (set (set (set (set out (2 * j) b0) (2 * j + 1) b1) (2 * j + 16) b2) (2 * j + 17) b3) k ≡ byte ws k
word_more ws out j h l inv b0 b1 b2 b3 e0 e1 e2 e3 k hk hj =
    let f = bytes_of ws j h in
    written (set (set (set out (2 * j) b0) (2 * j + 1) b1) (2 * j + 16) b2) (2 * j + 17) b3 k (simp length-set (omega arith)) (e3 ∙ sym f.3) (λ n3.
    written (set (set out (2 * j) b0) (2 * j + 1) b1) (2 * j + 16) b2 k (simp length-set (omega arith)) (e2 ∙ sym f.2) (λ n2.
    written (set out (2 * j) b0) (2 * j + 1) b1 k (simp length-set (omega arith)) (e1 ∙ sym f.1) (λ n1.
    written out (2 * j) b0 k (omega arith) (e0 ∙ sym f.0) (λ n0. inv k hk (elsewhere k j hk hj n0 n1 n2 n3)))))
  where
    written : (o : List ℕ) (i b k : ℕ) → i < length o → b ≡ byte ws i → ((k ≡ i → ⊥) → at o k ≡ byte ws k) → at (set o i b) k ≡ byte ws k
    written o i b k h e else = elim (cases_eq k i) [
      | inl q ↦ ap (at (set o i b)) q ∙ get_or-set_same o i b 0 h ∙ e ∙ ap (byte ws) (sym q)
      | inr n ↦ get_or-set_other o i k b 0 n ∙ else n
    ]

pub all_stored : (w : State) (out : List ℕ) → length out ≡ 32 → ((k : ℕ) → k < 32 → at out k ≡ byte (words w) k) → out ≡ from_cube (cube_of w)
all_stored w out l e = ext_get_or 0 out _ (l ∙ sym (from-cube-length (cube_of w))) (λ k h. let m : k < 32 = omega (arith, l) in e k m ∙ byte_is w k m)

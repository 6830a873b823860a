-- Where the nibbles of a cube stand in the words, and what that says of moves, S-boxes, columns and sums.
use Rattle.std.proofs.Common.{◌≡◌, ℕ, zero, suc, ◌+◌, ◌*◌, ◌/◌, ◌%◌, ◌<◌, ◌⊎◌, [], ◌∷◌, Bool, true, false, cond, eqb, refl, inl, inr, sym, ap, ◌∙◌, ap₂, add-zero, arith}
use Rattle.std.proofs.lemmas.Bool.{lt-ltb, le-ltb}
use lib.Bits.{bit_xor}
use Rattle.saturnin.specs.Bits.{bit}
use Rattle.octets.specs.Lists.{at}
use Rattle.saturnin.specs.Cube.{cube}
use Rattle.saturnin.specs.Layers.{add}
use Rattle.octets.proofs.Tables.{at_table, same_table}
use Rattle.saturnin_words.specs.Words.{across, quad, stands_at, cube_of, in_row, in_word, in_cube}
use Rattle.saturnin_words.specs.declared.quad.Quad.{Quad}
use Rattle.saturnin_words.specs.declared.state.State.{State}

-- the nibble at bit p of the even words (m is 0) or of the odd ones
abbrev pub read : State → (m p : ℕ) → ℕ
read w m p = cond (eqb m 0) (quad w.even p) (quad w.odd p)

pub at-cube_of : (w : State) (i : ℕ) → i < 64 → at (cube_of w) i ≡ read w (i % 2) (stands_at i)
unfolding cube_of
at-cube_of w i h = at_table 64 (λ i. read w (i % 2) (stands_at i)) i h

pub at_place : (w : State) (i m p : ℕ) → i < 64 → i % 2 ≡ m → stands_at i ≡ p → at (cube_of w) i ≡ read w m p
at_place w i m p h e f = at-cube_of w i h ∙ ap₂ (read w) e f

-- a cube in the words is what it is row by row: row y of column b
pub by_rows : (r : State) (F : ℕ → ℕ → ℕ) → ((b : ℕ) → b < 16 → quad r.even b ≡ F 0 b) → ((b : ℕ) → b < 16 → quad r.odd b ≡ F 1 b)
    → ((b : ℕ) → b < 16 → quad r.even (b + 16) ≡ F 2 b) → ((b : ℕ) → b < 16 → quad r.odd (b + 16) ≡ F 3 b)
    → cube_of r ≡ cube (λ i. F (i % 4) (i / 4))
unfolding cube_of
by_rows r F e0 e1 e2 e3 = same_table 64 _ _ (λ i h. line (i % 4) (i % 2) (i / 4) (omega arith) (omega arith) (omega arith))
  where
    line : (y m b : ℕ) → b < 16 → y < 4 → m ≡ y % 2 → read r m (b + 16 * (y / 2)) ≡ F y b
    line zero m b h l q = rw (q, add-zero) (e0 b h)
    line (suc zero) m b h l q = rw (q, add-zero) (e1 b h)
    line (suc (suc zero)) m b h l q = rw q (e2 b h)
    line (suc (suc (suc zero))) m b h l q = rw q (e3 b h)
    line (suc (suc (suc (suc y)))) m b h l q = absurd (omega arith)

-- the column b of a cube in the words
pub column : (G : ℕ → ℕ → ℕ → ℕ → ℕ) (w : State) (b : ℕ) → b < 16
    → G (quad w.even b) (quad w.odd b) (quad w.even (b + 16)) (quad w.odd (b + 16))
    ≡ G (at (cube_of w) (4 * b)) (at (cube_of w) (4 * b + 1)) (at (cube_of w) (4 * b + 2)) (at (cube_of w) (4 * b + 3))
column G w b h =
    rw (
      at_place w (4 * b) 0 b (omega arith) (omega arith) (omega arith),
      at_place w (4 * b + 1) 1 b (omega arith) (omega arith) (omega arith),
      at_place w (4 * b + 2) 0 (b + 16) (omega arith) (omega arith) (omega arith),
      at_place w (4 * b + 3) 1 (b + 16) (omega arith) (omega arith) (omega arith),
    )

-- a map of each nibble, one for even and one for odd indices
pub mapped : (f g : ℕ → ℕ) (r w : State) → ((p : ℕ) → quad r.even p ≡ f (quad w.even p)) → ((p : ℕ) → quad r.odd p ≡ g (quad w.odd p))
    → cube_of r ≡ cube (λ i. cond (eqb (i % 2) 0) (f (at (cube_of w) i)) (g (at (cube_of w) i)))
unfolding cube_of
mapped f g r w e o = same_table 64 _ _ (λ i h. pick (eqb (i % 2) 0) _ _ _ _ _ (at-cube_of w i h) (e (stands_at i)) (o (stands_at i)))
  where
    pick : (b : Bool) (x y x' y' n : ℕ) → n ≡ cond b x y → x' ≡ f x → y' ≡ g y → cond b x' y' ≡ cond b (f n) (g n)
    pick true x y x' y' n e h k = h ∙ ap f (sym e)
    pick false x y x' y' n e h k = k ∙ ap g (sym e)

-- a sum
pub added : (r k w : State) → ((p : ℕ) → quad r.even p ≡ bit_xor (quad w.even p) (quad k.even p))
    → ((p : ℕ) → quad r.odd p ≡ bit_xor (quad w.odd p) (quad k.odd p)) → cube_of r ≡ add (cube_of k) (cube_of w)
unfolding cube_of add
added r k w e o =
    same_table 64 _ _ (λ i h.
    pick (eqb (i % 2) 0) _ _ _ _ _ _ (e (stands_at i)) (o (stands_at i)) ∙ ap₂ bit_xor (sym (at-cube_of w i h)) (sym (at-cube_of k i h)))
  where
    pick : (b : Bool) (x y k l x' y' : ℕ) → x' ≡ bit_xor x k → y' ≡ bit_xor y l → cond b x' y' ≡ bit_xor (cond b x y) (cond b k l)
    pick true x y k l x' y' e f = e
    pick false x y k l x' y' e f = f

-- moves: the bits of four words, from other places
pub each_moves : (q r : Quad) (source : ℕ → ℕ)
    → ((p : ℕ) → p < 32 → bit r.a p ≡ bit q.a (source p)) → ((p : ℕ) → p < 32 → bit r.b p ≡ bit q.b (source p))
    → ((p : ℕ) → p < 32 → bit r.c p ≡ bit q.c (source p)) → ((p : ℕ) → p < 32 → bit r.d p ≡ bit q.d (source p))
    → (p : ℕ) → p < 32 → quad r p ≡ quad q (source p)
unfolding across
each_moves q r source ea eb ec ed p h = rw (ea p h, eb p h, ec p h, ed p h)

-- rows that turn
pub rows_turned : (r w : State) (W y0 y1 y2 y3 : ℕ) → (W ≡ 4) ⊎ (W ≡ 16)
    → ((p : ℕ) → p < 32 → quad r.even p ≡ quad w.even (in_word W y0 y2 p)) → ((p : ℕ) → p < 32 → quad r.odd p ≡ quad w.odd (in_word W y1 y3 p))
    → cube_of r ≡ cube (λ i. at (cube_of w) (in_cube W (at (y0 ∷ y1 ∷ y2 ∷ y3 ∷ [])) i))
rows_turned r w W y0 y1 y2 y3 wide e o =
    by_rows r (λ y b. at (cube_of w) (y + 4 * in_row W (at (y0 ∷ y1 ∷ y2 ∷ y3 ∷ []) y) b))
    (λ b h. e b (omega arith) ∙ ap (quad w.even) (low y0 y2 b h) ∙ there 0 y0 b 0 (in_row W y0 b) h (omega arith) refl (omega arith))
    (λ b h. o b (omega arith) ∙ ap (quad w.odd) (low y1 y3 b h) ∙ there 1 y1 b 1 (in_row W y1 b) h (omega arith) refl (omega arith))
    (λ b h. e (b + 16) (omega arith) ∙ ap (quad w.even) (high y0 y2 b h) ∙ there 2 y2 b 0 (16 + in_row W y2 b) h (omega arith) refl (omega arith))
    (λ b h. o (b + 16) (omega arith) ∙ ap (quad w.odd) (high y1 y3 b h) ∙ there 3 y3 b 1 (16 + in_row W y3 b) h (omega arith) refl (omega arith))
  where
    inside : (t b : ℕ) → b < 16 → in_row W t b < 16
    inside t b h = elim wide [ inl e ↦ rw e (omega arith) | inr e ↦ rw e (omega arith) ]

    there : (y t b m p : ℕ) → b < 16 → y < 4 → y % 2 ≡ m → in_row W t b + 16 * (y / 2) ≡ p → read w m p ≡ at (cube_of w) (y + 4 * in_row W t b)
    there y t b m p h k e q = let g : ℕ = in_row W t b in let l : g < 16 = inside t b h in sym (at_place w (y + 4 * g) m p (omega arith) (omega arith) (omega arith))

    low : (l h b : ℕ) → b < 16 → in_word W l h b ≡ in_row W l b
    low l h b k = rw (lt-ltb b 16 k)

    high : (l h b : ℕ) → b < 16 → in_word W l h (b + 16) ≡ 16 + in_row W h b
    high l h b k = rw (le-ltb (b + 16) 16 (omega arith)) (ap (λ b. 16 + in_row W h b) (omega arith))

-- Every step of a round keeps 64 nibbles, and is undone by its inverse.
use Rattle.std.proofs.Common.{◌≡◌, ℕ, ◌+◌, ◌*◌, ◌/◌, ◌%◌, ◌<◌, Bool, true, false, cond, T, eqb, ltb, List, [], ◌∷◌, length, sym, refl, ap, ◌∙◌, subst, ap₂, add-zero, arith, lit<, ltb→lt}
use lib.Bits.{bit_xor, xor_assoc, xor_comm, xor_self, xor_zero_r, xor_lt}
use Rattle.saturnin.specs.Bits.{bit, nibble}
use Rattle.octets.specs.Lists.{at}
use Rattle.saturnin.specs.Cube.{cube}
use Rattle.saturnin.specs.Layers.{σ₀, σ₁, S, slice_to, slice_from, SR_slice, SR_slice⁻¹, sheet_to, sheet_from, SR_sheet, SR_sheet⁻¹, SR, SR⁻¹, α, M_row, MC, add}
use Rattle.saturnin.specs.Shifts.{Moves, Undoes}
use Rattle.saturnin.specs.Rounds.{constants, rotated}
use Rattle.saturnin.specs.Back.{σ₀⁻¹, σ₁⁻¹, S⁻¹, α⁻¹, M⁻¹_row, MC⁻¹}
use Rattle.saturnin.proofs.Bits.{below, at_below, same_below, bit_lt}
use Rattle.octets.proofs.Tables.{at_table, same_table, length-table, is_table}
use Rattle.saturnin.proofs.Numbers.{four}
use Rattle.saturnin.proofs.Matrix.{row0, row1, row2, row3}

-- sixty-four nibbles
pub record Good (s : List ℕ) : Type 0 where
  pub long : length s ≡ 64
  pub small : (i : ℕ) → i < 64 → at s i < 16

pub good_cube : (f : ℕ → ℕ) → ((i : ℕ) → i < 64 → f i < 16) → Good (cube f)
good_cube f h = record { long = length-table 64 f; small = λ i l. rw (at_table 64 f i l) (h i l) }

pub cube_is : (f : ℕ → ℕ) (s : List ℕ) → length s ≡ 64 → ((i : ℕ) → i < 64 → f i ≡ at s i) → cube f ≡ s
cube_is f s l e = sym (is_table 64 f s l (λ i h. sym (e i h)))

below_16 : (f : ℕ → ℕ) → T (below (λ v. ltb (f v) 16) 16) → (v : ℕ) → v < 16 → f v < 16
below_16 f t v h = ltb→lt (f v) 16 (at_below (λ v. ltb (f v) 16) 16 t v h)

-- the S-boxes
module _ (f g f' g' : ℕ → ℕ)
    (tf : T (below (λ v. eqb (f' (f v)) v) 16)) (tg : T (below (λ v. eqb (g' (g v)) v) 16))
    (bf : T (below (λ v. ltb (f v) 16) 16)) (bg : T (below (λ v. ltb (g v) 16) 16)) where
  pair : (b : Bool) (v : ℕ) → v < 16 → cond b (f' (cond b (f v) (g v))) (g' (cond b (f v) (g v))) ≡ v
  pair true v h = same_below (λ v. f' (f v)) (λ v. v) 16 tf v h
  pair false v h = same_below (λ v. g' (g v)) (λ v. v) 16 tg v h

  pair_lt : (b : Bool) (v : ℕ) → v < 16 → cond b (f v) (g v) < 16
  pair_lt true v h = below_16 f bf v h
  pair_lt false v h = below_16 g bg v h

  layer : List ℕ → List ℕ
  layer s = cube (λ i. cond (eqb (i % 2) 0) (f (at s i)) (g (at s i)))

  boxes_good : (s : List ℕ) → Good s → Good (cube (λ i. cond (eqb (i % 2) 0) (f (at s i)) (g (at s i))))
  boxes_good s h = good_cube _ (λ i l. pair_lt (eqb (i % 2) 0) (at s i) (h.small i l))

  boxes_undone : (s t : List ℕ) → Good s → t ≡ cube (λ i. cond (eqb (i % 2) 0) (f (at s i)) (g (at s i)))
      → cube (λ i. cond (eqb (i % 2) 0) (f' (at t i)) (g' (at t i))) ≡ s
  boxes_undone s t h e = cube_is _ s h.long (λ i l.
      let q : at t i ≡ cond (eqb (i % 2) 0) (f (at s i)) (g (at s i)) = ap (λ v. at v i) e ∙ at_table 64 _ i l in
      ap (λ v. cond (eqb (i % 2) 0) (f' v) (g' v)) q ∙ pair (eqb (i % 2) 0) (at s i) (h.small i l))

pub S_good : (s : List ℕ) → Good s → Good (S s)
unfolding S σ₀ σ₁ σ₀⁻¹ σ₁⁻¹
S_good = boxes_good σ₀ σ₁ σ₀⁻¹ σ₁⁻¹ tt tt tt tt

pub S⁻¹_good : (s : List ℕ) → Good s → Good (S⁻¹ s)
unfolding S⁻¹ σ₀ σ₁ σ₀⁻¹ σ₁⁻¹
S⁻¹_good = boxes_good σ₀⁻¹ σ₁⁻¹ σ₀ σ₁ tt tt tt tt

pub S_undone : (s : List ℕ) → Good s → S⁻¹ (S s) ≡ s
unfolding S S⁻¹ σ₀ σ₁ σ₀⁻¹ σ₁⁻¹
S_undone s h = boxes_undone σ₀ σ₁ σ₀⁻¹ σ₁⁻¹ tt tt tt tt s _ h refl

pub S_redone : (s : List ℕ) → Good s → S (S⁻¹ s) ≡ s
unfolding S S⁻¹ σ₀ σ₁ σ₀⁻¹ σ₁⁻¹
S_redone s h = boxes_undone σ₀⁻¹ σ₁⁻¹ σ₀ σ₁ tt tt tt tt s _ h refl

-- moves
module _ (p q : ℕ → ℕ) (tq : T (below (λ i. ltb (q i) 64) 64)) where
  in-range : (i : ℕ) → i < 64 → q i < 64
  in-range i h = ltb→lt (q i) 64 (at_below (λ i. ltb (q i) 64) 64 tq i h)

  moved_good : (s : List ℕ) → Good s → Good (cube (λ i. at s (q i)))
  moved_good s h = good_cube _ (λ i l. h.small (q i) (in-range i l))

  moves : T (below (λ i. eqb (p (q i)) i) 64) → Moves (λ s. cube (λ i. at s (p i))) q
  moves t s i h = at_table 64 (λ j. at s (p j)) (q i) (in-range i h) ∙ ap (at s) (same_below (λ i. p (q i)) (λ i. i) 64 t i h)

  moved_back : T (below (λ i. eqb (p (q i)) i) 64) → Undoes (λ s. cube (λ i. at s (q i))) (λ s. cube (λ i. at s (p i)))
  moved_back t s l = cube_is _ s l (moves t s)

pub slice_good : (s : List ℕ) → Good s → Good (SR_slice s)
unfolding SR_slice
slice_good = moved_good slice_from slice_from tt

pub slice⁻¹_good : (s : List ℕ) → Good s → Good (SR_slice⁻¹ s)
unfolding SR_slice⁻¹
slice⁻¹_good = moved_good slice_from slice_to tt

pub sheet_good : (s : List ℕ) → Good s → Good (SR_sheet s)
unfolding SR_sheet
sheet_good = moved_good sheet_from sheet_from tt

pub sheet⁻¹_good : (s : List ℕ) → Good s → Good (SR_sheet⁻¹ s)
unfolding SR_sheet⁻¹
sheet⁻¹_good = moved_good sheet_from sheet_to tt

pub rotated_good : (s : List ℕ) → Good s → Good (rotated s)
unfolding rotated
rotated_good = moved_good (λ i. i) (λ i. (i + 20) % 64) tt

pub slices_move : Moves SR_slice slice_to
unfolding SR_slice
slices_move = moves slice_from slice_to tt tt

slice_undone : Undoes SR_slice⁻¹ SR_slice
unfolding SR_slice SR_slice⁻¹
slice_undone = moved_back slice_from slice_to tt tt

slice_redone : Undoes SR_slice SR_slice⁻¹
unfolding SR_slice SR_slice⁻¹
slice_redone = moved_back slice_to slice_from tt tt

pub sheets_move : Moves SR_sheet sheet_to
unfolding SR_sheet
sheets_move = moves sheet_from sheet_to tt tt

sheet_undone : Undoes SR_sheet⁻¹ SR_sheet
unfolding SR_sheet SR_sheet⁻¹
sheet_undone = moved_back sheet_from sheet_to tt tt

sheet_redone : Undoes SR_sheet SR_sheet⁻¹
unfolding SR_sheet SR_sheet⁻¹
sheet_redone = moved_back sheet_to sheet_from tt tt

-- the shift of round r
module _ (P : List ℕ → Type 0) (r : ℕ) (a b c : List ℕ) where
  by_shift : P a → P b → P c → P (cond (eqb (r % 4) 1) a (cond (eqb (r % 4) 3) b c))
  by_shift x y z = go (eqb (r % 4) 1) (eqb (r % 4) 3)
    where
      go : (t u : Bool) → P (cond t a (cond u b c))
      go true u = x
      go false true = y
      go false false = z

pub SR_good : (r : ℕ) (s : List ℕ) → Good s → Good (SR r s)
unfolding SR
SR_good r s h = by_shift Good r _ _ _ (slice_good s h) (sheet_good s h) h

pub SR⁻¹_good : (r : ℕ) (s : List ℕ) → Good s → Good (SR⁻¹ r s)
unfolding SR⁻¹
SR⁻¹_good r s h = by_shift Good r _ _ _ (slice⁻¹_good s h) (sheet⁻¹_good s h) h

pub SR_undone : (r : ℕ) → Undoes (SR⁻¹ r) (SR r)
unfolding SR SR⁻¹
SR_undone r s h = go (eqb (r % 4) 1) (eqb (r % 4) 3)
  where
    go : (t u : Bool) → cond t (SR_slice⁻¹ (cond t (SR_slice s) (cond u (SR_sheet s) s))) (cond u (SR_sheet⁻¹ (cond t (SR_slice s) (cond u (SR_sheet s) s))) (cond t (SR_slice s) (cond u (SR_sheet s) s))) ≡ s
    go true u = slice_undone s h
    go false true = sheet_undone s h
    go false false = refl

pub SR_redone : (r : ℕ) → Undoes (SR r) (SR⁻¹ r)
unfolding SR SR⁻¹
SR_redone r s h = go (eqb (r % 4) 1) (eqb (r % 4) 3)
  where
    go : (t u : Bool) → cond t (SR_slice (cond t (SR_slice⁻¹ s) (cond u (SR_sheet⁻¹ s) s))) (cond u (SR_sheet (cond t (SR_slice⁻¹ s) (cond u (SR_sheet⁻¹ s) s))) (cond t (SR_slice⁻¹ s) (cond u (SR_sheet⁻¹ s) s))) ≡ s
    go true u = slice_redone s h
    go false true = sheet_redone s h
    go false false = refl

-- sums
cancel : (x y : ℕ) → bit_xor (bit_xor x y) y ≡ x
cancel x y = xor_assoc x y y ∙ ap (bit_xor x) (xor_self y) ∙ xor_zero_r x

pub add_good : (k s : List ℕ) → Good k → Good s → Good (add k s)
unfolding add
add_good k s g h = good_cube _ (λ i l. xor_lt 4 (at s i) (at k i) (h.small i l) (g.small i l))

pub add_undone : (k s : List ℕ) → Good s → add k (add k s) ≡ s
unfolding add
add_undone k s h = cube_is _ s h.long (λ i l. ap (λ v. bit_xor v (at k i)) (at_table 64 (λ j. bit_xor (at s j) (at k j)) i l) ∙ cancel (at s i) (at k i))

spot_lt : (x y : ℕ) → x < 2 → y < 2 → (k : ℕ) → k < 4 → at (x ∷ 0 ∷ y ∷ 0 ∷ []) k < 16
spot_lt x y hx hy = four (λ k. at (x ∷ 0 ∷ y ∷ 0 ∷ []) k < 16) (omega arith) (lit< tt) (omega arith) (lit< tt)

pub constants_good : (c₀ c₁ : ℕ) → Good (constants c₀ c₁)
unfolding constants
constants_good c₀ c₁ = good_cube _ (λ i l. spot_lt (bit c₀ (i / 4)) (bit c₁ (i / 4)) (bit_lt c₀ (i / 4)) (bit_lt c₁ (i / 4)) (i % 4) (omega arith))

-- two cubes added one after the other are their sum added
pub add-add : (x y s : List ℕ) → add (add x y) s ≡ add y (add x s)
unfolding add
add-add x y s = same_table 64 _ _ (λ i l.
    ap (bit_xor (at s i)) (at_table 64 (λ j. bit_xor (at y j) (at x j)) i l ∙ xor_comm (at y i) (at x i))
    ∙ sym (xor_assoc (at s i) (at x i) (at y i)) ∙ ap (λ v. bit_xor v (at y i)) (sym (at_table 64 (λ j. bit_xor (at s j) (at x j)) i l)))

-- the matrix
pub α_undone : (x : ℕ) → x < 16 → α⁻¹ (α x) ≡ x
unfolding α α⁻¹ nibble bit
α_undone x h = same_below (λ v. α⁻¹ (α v)) (λ v. v) 16 tt x h

pub α_redone : (x : ℕ) → x < 16 → α (α⁻¹ x) ≡ x
unfolding α α⁻¹ nibble bit
α_redone x h = same_below (λ v. α (α⁻¹ v)) (λ v. v) 16 tt x h

α_lt : (x : ℕ) → x < 16 → α x < 16
unfolding α nibble bit
α_lt x h = below_16 α tt x h

α⁻¹_lt : (x : ℕ) → x < 16 → α⁻¹ x < 16
unfolding α⁻¹ nibble bit
α⁻¹_lt x h = below_16 α⁻¹ tt x h

plus_lt : (x y : ℕ) → x < 16 → y < 16 → bit_xor x y < 16
plus_lt x y h g = xor_lt 4 x y h g

module _ (a b c d : ℕ) (ha : a < 16) (hb : b < 16) (hc : c < 16) (hd : d < 16) where
  -- there and back
  M_lt : (y : ℕ) → y < 4 → M_row y a b c d < 16
  M_lt = four (λ y. M_row y a b c d < 16)
      (subst small (row0 a b c d) r0) (subst small (row1 a b c d) (plus_lt _ _ (plus_lt _ _ (α_lt b hb) cd) r2))
      (subst small (row2 a b c d) r2) (subst small (row3 a b c d) (plus_lt _ _ (plus_lt _ _ (α_lt d hd) ab) r0))
    where
      small : ℕ → Type 0
      small v = v < 16

      ab : bit_xor a b < 16
      ab = plus_lt a b ha hb

      cd : bit_xor c d < 16
      cd = plus_lt c d hc hd

      r0 : bit_xor (α (α (bit_xor a b))) (bit_xor (α b) (bit_xor c d)) < 16
      r0 = plus_lt _ _ (α_lt _ (α_lt _ ab)) (plus_lt _ _ (α_lt b hb) cd)

      r2 : bit_xor (α (α (bit_xor c d))) (bit_xor (α d) (bit_xor a b)) < 16
      r2 = plus_lt _ _ (α_lt _ (α_lt _ cd)) (plus_lt _ _ (α_lt d hd) ab)

  M_undone : (y : ℕ) → y < 4 → M⁻¹_row y (M_row 0 a b c d) (M_row 1 a b c d) (M_row 2 a b c d) (M_row 3 a b c d) ≡ at (a ∷ b ∷ c ∷ d ∷ []) y
  unfolding M⁻¹_row
  M_undone y h =
      rw (← row0 a b c d, ← row1 a b c d, ← row2 a b c d, ← row3 a b c d)
      (let ab : bit_xor a b < 16 = plus_lt a b ha hb in
      let cd : bit_xor c d < 16 = plus_lt c d hc hd in
      let e1 : α⁻¹ (α⁻¹ (α (α (bit_xor a b)))) ≡ bit_xor a b = ap α⁻¹ (α_undone (α (bit_xor a b)) (α_lt _ ab)) ∙ α_undone _ ab in
      let e2 : α⁻¹ (α⁻¹ (α (α (bit_xor c d)))) ≡ bit_xor c d = ap α⁻¹ (α_undone (α (bit_xor c d)) (α_lt _ cd)) ∙ α_undone _ cd in
      four (λ y. M⁻¹_row y (bit_xor (α (α (bit_xor a b))) (bit_xor (α b) (bit_xor c d)))
      (bit_xor (bit_xor (α b) (bit_xor c d)) (bit_xor (α (α (bit_xor c d))) (bit_xor (α d) (bit_xor a b))))
      (bit_xor (α (α (bit_xor c d))) (bit_xor (α d) (bit_xor a b)))
      (bit_xor (bit_xor (α d) (bit_xor a b)) (bit_xor (α (α (bit_xor a b))) (bit_xor (α b) (bit_xor c d))))
      ≡ at (a ∷ b ∷ c ∷ d ∷ []) y)
      (simp (cancel, e1, e2, α_undone b hb)) (simp (cancel, e2, α_undone b hb)) (simp (cancel, e1, e2, α_undone d hd)) (simp (cancel, e1, α_undone d hd)) y h)

  -- back and there: x1 and so on are what the way back makes
  M⁻¹_lt : (y : ℕ) → y < 4 → M⁻¹_row y a b c d < 16
  unfolding M⁻¹_row
  M⁻¹_lt =
      let d1 : bit_xor d a < 16 = plus_lt d a hd ha in
      let b1 : bit_xor b c < 16 = plus_lt b c hb hc in
      let a1 : α⁻¹ (α⁻¹ (bit_xor a (bit_xor b c))) < 16 = α⁻¹_lt _ (α⁻¹_lt _ (plus_lt _ _ ha b1)) in
      let c1 : α⁻¹ (α⁻¹ (bit_xor c (bit_xor d a))) < 16 = α⁻¹_lt _ (α⁻¹_lt _ (plus_lt _ _ hc d1)) in
      let d2 : M⁻¹_row 3 a b c d < 16 = α⁻¹_lt _ (plus_lt _ _ d1 a1) in
      let b2 : M⁻¹_row 1 a b c d < 16 = α⁻¹_lt _ (plus_lt _ _ b1 c1) in
      four (λ y. M⁻¹_row y a b c d < 16) (plus_lt _ _ a1 b2) b2 (plus_lt _ _ c1 d2) d2

  M_redone : (y : ℕ) → y < 4 → M_row y (M⁻¹_row 0 a b c d) (M⁻¹_row 1 a b c d) (M⁻¹_row 2 a b c d) (M⁻¹_row 3 a b c d) ≡ at (a ∷ b ∷ c ∷ d ∷ []) y
  unfolding M⁻¹_row
  M_redone y h =
      let d1 : bit_xor d a < 16 = plus_lt d a hd ha in
      let b1 : bit_xor b c < 16 = plus_lt b c hb hc in
      let A : ℕ = bit_xor a (bit_xor b c) in
      let C : ℕ = bit_xor c (bit_xor d a) in
      let lA : A < 16 = plus_lt _ _ ha b1 in
      let lC : C < 16 = plus_lt _ _ hc d1 in
      let eA : α (α (α⁻¹ (α⁻¹ A))) ≡ A = ap α (α_redone (α⁻¹ A) (α⁻¹_lt A lA)) ∙ α_redone A lA in
      let eC : α (α (α⁻¹ (α⁻¹ C))) ≡ C = ap α (α_redone (α⁻¹ C) (α⁻¹_lt C lC)) ∙ α_redone C lC in
      let eD : α (α⁻¹ (bit_xor (bit_xor d a) (α⁻¹ (α⁻¹ A)))) ≡ bit_xor (bit_xor d a) (α⁻¹ (α⁻¹ A)) = α_redone _ (plus_lt _ _ d1 (α⁻¹_lt _ (α⁻¹_lt A lA))) in
      let eB : α (α⁻¹ (bit_xor (bit_xor b c) (α⁻¹ (α⁻¹ C)))) ≡ bit_xor (bit_xor b c) (α⁻¹ (α⁻¹ C)) = α_redone _ (plus_lt _ _ b1 (α⁻¹_lt _ (α⁻¹_lt C lC))) in
      four (λ y. M_row y (M⁻¹_row 0 a b c d) (M⁻¹_row 1 a b c d) (M⁻¹_row 2 a b c d) (M⁻¹_row 3 a b c d) ≡ at (a ∷ b ∷ c ∷ d ∷ []) y)
      (sym (row0 _ _ _ _) ∙ simp (cancel, eA, eB)) (sym (row1 _ _ _ _) ∙ simp (cancel, eB, eC, eD))
      (sym (row2 _ _ _ _) ∙ simp (cancel, eC, eD)) (sym (row3 _ _ _ _) ∙ simp (cancel, eD, eA, eB)) y h

-- the columns of a cube
module _ (F G : ℕ → ℕ → ℕ → ℕ → ℕ → ℕ)
    (F_lt : (a b c d : ℕ) → a < 16 → b < 16 → c < 16 → d < 16 → (y : ℕ) → y < 4 → F y a b c d < 16)
    (undone : (a b c d : ℕ) → a < 16 → b < 16 → c < 16 → d < 16 → (y : ℕ) → y < 4 → G y (F 0 a b c d) (F 1 a b c d) (F 2 a b c d) (F 3 a b c d) ≡ at (a ∷ b ∷ c ∷ d ∷ []) y) where
  col : List ℕ → ℕ → ℕ
  col s i = F (i % 4) (at s (4 * (i / 4))) (at s (4 * (i / 4) + 1)) (at s (4 * (i / 4) + 2)) (at s (4 * (i / 4) + 3))

  columns_good : (s : List ℕ) → Good s → Good (cube (λ i. F (i % 4) (at s (4 * (i / 4))) (at s (4 * (i / 4) + 1)) (at s (4 * (i / 4) + 2)) (at s (4 * (i / 4) + 3))))
  columns_good s h = good_cube _ (λ i l.
      F_lt _ _ _ _ (h.small (4 * (i / 4)) (omega arith)) (h.small (4 * (i / 4) + 1) (omega arith)) (h.small (4 * (i / 4) + 2) (omega arith)) (h.small (4 * (i / 4) + 3) (omega arith))
      (i % 4) (omega arith))

  at_col : (s : List ℕ) (b y : ℕ) → b < 16 → y < 4
      → at (cube (λ i. F (i % 4) (at s (4 * (i / 4))) (at s (4 * (i / 4) + 1)) (at s (4 * (i / 4) + 2)) (at s (4 * (i / 4) + 3)))) (4 * b + y)
      ≡ F y (at s (4 * b)) (at s (4 * b + 1)) (at s (4 * b + 2)) (at s (4 * b + 3))
  at_col s b y h l =
      at_table 64 _ (4 * b + y) (omega arith)
      ∙ ap₂ (λ m q. F m (at s (4 * q)) (at s (4 * q + 1)) (at s (4 * q + 2)) (at s (4 * q + 3)))
      (let e : (4 * b + y) % 4 ≡ y = omega arith in e) (let e : (4 * b + y) / 4 ≡ b = omega arith in e)

  back_at : (s : List ℕ) (b : ℕ) → b < 16 → (y : ℕ) → y < 4 → at (at s (4 * b) ∷ at s (4 * b + 1) ∷ at s (4 * b + 2) ∷ at s (4 * b + 3) ∷ []) y ≡ at s (4 * b + y)
  back_at s b h = four (λ y. at (at s (4 * b) ∷ at s (4 * b + 1) ∷ at s (4 * b + 2) ∷ at s (4 * b + 3) ∷ []) y ≡ at s (4 * b + y)) (rw add-zero) refl refl refl

  columns_undone : (s t : List ℕ) → Good s → t ≡ cube (λ i. F (i % 4) (at s (4 * (i / 4))) (at s (4 * (i / 4) + 1)) (at s (4 * (i / 4) + 2)) (at s (4 * (i / 4) + 3)))
      → cube (λ i. G (i % 4) (at t (4 * (i / 4))) (at t (4 * (i / 4) + 1)) (at t (4 * (i / 4) + 2)) (at t (4 * (i / 4) + 3))) ≡ s
  columns_undone s t h e = cube_is _ s h.long (λ i l.
      let b : ℕ = i / 4 in
      let lb : b < 16 = omega arith in
      let t0 : at t (4 * b) ≡ F 0 (at s (4 * b)) (at s (4 * b + 1)) (at s (4 * b + 2)) (at s (4 * b + 3)) = ap₂ at e (sym (add-zero (4 * b))) ∙ at_col s b 0 lb (lit< tt) in
      let t1 : at t (4 * b + 1) ≡ F 1 (at s (4 * b)) (at s (4 * b + 1)) (at s (4 * b + 2)) (at s (4 * b + 3)) = ap (λ v. at v (4 * b + 1)) e ∙ at_col s b 1 lb (lit< tt) in
      let t2 : at t (4 * b + 2) ≡ F 2 (at s (4 * b)) (at s (4 * b + 1)) (at s (4 * b + 2)) (at s (4 * b + 3)) = ap (λ v. at v (4 * b + 2)) e ∙ at_col s b 2 lb (lit< tt) in
      let t3 : at t (4 * b + 3) ≡ F 3 (at s (4 * b)) (at s (4 * b + 1)) (at s (4 * b + 2)) (at s (4 * b + 3)) = ap (λ v. at v (4 * b + 3)) e ∙ at_col s b 3 lb (lit< tt) in
      rw (t0, t1, t2, t3)
      (undone (at s (4 * b)) (at s (4 * b + 1)) (at s (4 * b + 2)) (at s (4 * b + 3))
      (h.small (4 * b) (omega arith)) (h.small (4 * b + 1) (omega arith)) (h.small (4 * b + 2) (omega arith)) (h.small (4 * b + 3) (omega arith)) (i % 4) (omega arith)
      ∙ back_at s b lb (i % 4) (omega arith) ∙ ap (at s) (let q : 4 * b + i % 4 ≡ i = omega arith in q)))

pub MC_good : (s : List ℕ) → Good s → Good (MC s)
unfolding MC
MC_good = columns_good M_row M⁻¹_row M_lt M_undone

pub MC⁻¹_good : (s : List ℕ) → Good s → Good (MC⁻¹ s)
unfolding MC⁻¹
MC⁻¹_good = columns_good M⁻¹_row M_row M⁻¹_lt M_redone

pub MC_undone : (s : List ℕ) → Good s → MC⁻¹ (MC s) ≡ s
unfolding MC MC⁻¹
MC_undone s h = columns_undone M_row M⁻¹_row M_lt M_undone s _ h refl

pub MC_redone : (s : List ℕ) → Good s → MC (MC⁻¹ s) ≡ s
unfolding MC MC⁻¹
MC_redone s h = columns_undone M⁻¹_row M_row M⁻¹_lt M_redone s _ h refl

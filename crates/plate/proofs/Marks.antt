-- The cells of a plate: its last cells, and how many are used.
use Rattle.std.proofs.Common.{◌≡◌, ℕ, zero, suc, ◌+◌, ◌<◌, ◌≤◌, eqb, List, Some, None, Option, refl, ap, subst, inl, inr, arith}
use Rattle.std.proofs.lemmas.Bool.{eq-eqb, ne_eqb, cases_lt, cases_eq}
use Rattle.faults.specs.Tables.{Not}
use Rattle.plate.specs.Plates.{cells, mark, last_cell, LastCell, used, FirstUnused}

-- one cell more
pub last-here : (memory : List ℕ) (p n : ℕ) → mark memory n ≡ p + 1 → last_cell memory p (suc n) ≡ Some n
last-here memory p n e = rw (eq-eqb (mark memory n) (p + 1) e)

pub last-before : (memory : List ℕ) (p n : ℕ) → Not (mark memory n ≡ p + 1) → last_cell memory p (suc n) ≡ last_cell memory p n
last-before memory p n h = rw (ne_eqb (mark memory n) (p + 1) h)

module _ (memory : List ℕ) (p : ℕ) where
  last_more : (n : ℕ) (o : Option ℕ) → Not (mark memory n ≡ p + 1) → LastCell memory p n o → LastCell memory p (suc n) o
  last_more n None other h = λ i l e. grind arith
  last_more n (Some j) other h = (omega (arith, h.0), h.1, λ i k l e. grind arith)

  -- the definition and its words agree
  pub last_law : (n : ℕ) → LastCell memory p n (last_cell memory p n)
  last_law zero = λ i l. absurd (omega arith)
  last_law (suc n) = elim (cases_eq (mark memory n) (p + 1)) [
    | inl e ↦ rw (last-here memory p n e) (omega arith, e, λ i k l. absurd (omega arith))
    | inr d ↦ rw (last-before memory p n d) (last_more n (last_cell memory p n) d (last_law n))
  ]

  -- there is only one
  same_last : (n : ℕ) (o o' : Option ℕ) → LastCell memory p n o → LastCell memory p n o' → o ≡ o'
  same_last n None None h k = refl
  same_last n None (Some j) h k = absurd (h j k.0 k.1)
  same_last n (Some i) None h k = absurd (k i h.0 h.1)
  same_last n (Some i) (Some j) h k = ap Some (grind arith)

  pub last_is : (n : ℕ) (o : Option ℕ) → LastCell memory p n o → last_cell memory p n ≡ o
  last_is n o k = same_last n (last_cell memory p n) o (last_law n) k

-- where the same cells have the mark of a place, it has the same last cell
pub last_same : (memory memory' : List ℕ) (q n : ℕ) → ((i : ℕ) → i < n → eqb (mark memory' i) (q + 1) ≡ eqb (mark memory i) (q + 1)) → last_cell memory' q n ≡ last_cell memory q n
last_same memory memory' q zero h = refl
last_same memory memory' q (suc n) h = rw (h n (omega arith), last_same memory memory' q n (λ i l. h i (omega arith)))

module _ (memory : List ℕ) where
  pub used_more : (n : ℕ) → Not (mark memory n ≡ 0) → used memory (suc n) ≡ suc (used memory n)
  used_more n h = rw (ne_eqb (mark memory n) 0 h)

  pub used_less : (n : ℕ) → mark memory n ≡ 0 → used memory (suc n) ≡ used memory n
  used_less n h = rw (eq-eqb (mark memory n) 0 h)

  -- of the first n cells just the first u are used
  pub record Front (n u : ℕ) : Type 0 where
    pub within : u ≤ n
    pub before : (i : ℕ) → i < u → Not (mark memory i ≡ 0)
    pub after : (i : ℕ) → u ≤ i → i < n → mark memory i ≡ 0

  -- the count of used cells says where the unused begin, as long as none of them is followed by a used one
  pub front_used : (n : ℕ) → ((i j : ℕ) → i < j → j < n → mark memory i ≡ 0 → mark memory j ≡ 0) → Front n (used memory n)
  front_used zero h = record { within = omega arith; before = λ i l. absurd (omega arith); after = λ i k l. absurd (omega arith) }
  front_used (suc n) h =
      let f : Front n (used memory n) = front_used n (λ i j k l. h i j k (omega arith)) in
      elim (cases_eq (mark memory n) 0) [
        | inl e ↦ rw (used_less n e) (record { within = omega (arith, f.within); before = f.before; after = λ i k l. grind (arith, f) })
        | inr d ↦
            let whole : used memory n ≡ n = elim (cases_lt (used memory n) n) [ inl l ↦ absurd (d (h (used memory n) n l (omega arith) (f.after (used memory n) (omega arith) l))) | inr l ↦ omega (arith, f.within) ] in
            rw (used_more n d) (record { within = omega (arith, whole); before = λ i l e. grind (arith, f); after = λ i k l. absurd (omega (arith, whole)) })
      ]

  pub front_one : (n u v : ℕ) → Front n u → Front n v → u ≡ v
  front_one n u v f g = grind (arith, f, g)

  pub first-unused : (u : ℕ) → Front (cells memory) u → u < cells memory → FirstUnused memory u
  first-unused u f l = record { within = l; unused = f.after u (omega arith) l; before = f.before }

  -- neighbours without a gap
  pub no_gap : (n : ℕ) → ((j : ℕ) → j + 1 < n → mark memory j ≡ 0 → mark memory (j + 1) ≡ 0) → (i j : ℕ) → i < j → j < n → mark memory i ≡ 0 → mark memory j ≡ 0
  no_gap n h i zero l k e = absurd (omega arith)
  no_gap n h i (suc j) l k e =
      let before : mark memory j ≡ 0 = elim (cases_lt i j) [ inl m ↦ no_gap n h i j m (omega arith) e | inr m ↦ subst (λ t. mark memory t ≡ 0) (omega arith) e ] in
      subst (λ t. mark memory t ≡ 0) (omega arith) (h j (omega arith) before)

  -- fewer cells are used than there are exactly while one is unused
  used_at_most : (n : ℕ) → used memory n ≤ n
  used_at_most zero = omega arith
  used_at_most (suc n) =
      elim (cases_eq (mark memory n) 0) [
        | inl e ↦ omega (arith, used_less n e, used_at_most n)
        | inr d ↦ omega (arith, used_more n d, used_at_most n)
      ]

  pub unused_left : (n : ℕ) → used memory n < n → (j : ℕ) × (j < n) × (mark memory j ≡ 0)
  unused_left zero h = absurd (omega arith)
  unused_left (suc n) h =
      elim (cases_eq (mark memory n) 0) [
        | inl e ↦ (n, omega arith, e)
        | inr d ↦ let found : (j : ℕ) × (j < n) × (mark memory j ≡ 0) = unused_left n (omega (arith, used_more n d, h)) in (found.0, omega (arith, found.1), found.2)
      ]

  pub left_unused : (n j : ℕ) → j < n → mark memory j ≡ 0 → used memory n < n
  left_unused zero j l e = absurd (omega arith)
  left_unused (suc n) j l e =
      elim (cases_eq (mark memory n) 0) [
        | inl here ↦ omega (arith, used_less n here, used_at_most n)
        | inr d ↦ elim (cases_eq j n) [
          | inl same ↦ absurd (d (subst (λ i. mark memory i ≡ 0) same e))
          | inr other ↦ omega (arith, used_more n d, left_unused n j (omega (arith, other)) e)
        ]
      ]

-- Plates are shelves.
use Rattle.std.proofs.Common.{◌≡◌, ℕ, ◌+◌, ◌*◌, ◌/◌, ◌%◌, ◌<◌, ◌≤◌, eqb, ltb, ◌⊎◌, List, ◌++◌, length, get_or, Some, None, Ok, Option, sym, refl, ap, ◌∙◌, subst, ap₂, inl, inr, arith}
use Rattle.std.proofs.lemmas.List.{length-take, length-drop, length-replicate}
use Rattle.std.proofs.lemmas.Bool.{ltb-true, lt-ltb, ne_eqb, cases_lt, cases_eq, and_parts, and_from}
use Rattle.faults.specs.Tables.{Not, Clear}
use Rattle.octets.specs.Octets.{part, written, big_endian}
use Rattle.octets.proofs.Writes.{length-written, drop-written, part-written, part_below, part_above, get_or-written, get_or-apart, written-before}
use Rattle.octets.proofs.Numbers.{length-big_endian}
use Rattle.shelf.specs.Meaning.{Lawful, Puts, put_table}
use Rattle.plate.specs.Plates.{plate_cells, cells, mark, cell_bytes, NoMarkAbove, Fit, fit_table, used, last_cell, LastCell, held, plate, PlateStores}
use Rattle.plate.proofs.Marks.{Front, last_law, last_is, last_same, front_used, front_one, first-unused}
use Rattle.shelf.proofs.Tables.{put_allowed, put_done}

module _ (memory : List ℕ) where
  held-long : (p : ℕ) (o : Option ℕ) → LastCell memory p (cells memory) o → length (held memory o) ≡ 1024
  held-long p None h = length-replicate {A = ℕ} 1024 0
  held-long p (Some j) h = simp (length-take, length-drop) (omega (arith, h.0))

  pub plate_lawful : (places : ℕ) → places ≤ 4096 → Lawful (plate memory places)
  plate_lawful places few = record {
    few = omega arith;
    inside = λ p o. ltb-true p places (and_parts (ltb p places) (ltb (used memory (cells memory)) (cells memory)) o).0;
    whole = λ p h. held-long p (last_cell memory p (cells memory)) (last_law memory p (cells memory));
  }

-- what the check lets through is fit
pub fit_from_clear : (memory : List ℕ) (places : ℕ) → Clear (fit_table memory places) → Fit memory places
fit_from_clear memory places c = record {
  some = elim (cases_lt 0 places) [ inl h ↦ omega (arith, h) | inr h ↦ absurd (c.0 (λ f. omega (arith, h, f.some))) ];
  few = elim (cases_lt 4096 places) [ inl h ↦ absurd (c.0 (λ f. omega (arith, h, f.few))) | inr h ↦ omega (arith, h) ];
  marks = λ j l. elim (cases_lt places (mark memory j)) [
    | inl h ↦ absurd (c.0 (λ f. omega (arith, h, f.marks j l)))
    | inr h ↦ omega (arith, h)
  ];
  order = λ i j l m z. elim (cases_eq (mark memory j) 0) [ inl e ↦ e | inr n ↦ absurd (c.0 (λ f. n (f.order i j l m z))) ];
}

-- what a plate knows of its memory: it has the places of a fit one, or none
pub record Known (memory : List ℕ) (places : ℕ) : Type 0 where
  pub few : places ≤ 4096
  pub lawful : Lawful (plate memory places)
  pub marks : 0 < places → NoMarkAbove memory places
  pub order : (i j : ℕ) → (0 < places) × (i < j) × (j < cells memory) × (mark memory i ≡ 0) → mark memory j ≡ 0

pub known_fit : (memory : List ℕ) (places : ℕ) → Fit memory places → Known memory places
known_fit memory places f = record {
  few = f.few;
  lawful = plate_lawful memory places f.few;
  marks = λ h. f.marks;
  order = λ i j h. f.order i j h.1 h.2 h.3;
}

pub known_none : (memory : List ℕ) → Known memory 0
known_none memory = record {
  few = omega arith;
  lawful = plate_lawful memory 0 (omega arith);
  marks = λ h. absurd (omega (arith, h));
  order = λ i j h. absurd (omega (arith, h.0));
}

-- a put that no row refuses finds an unused cell
pub plate_room : (memory bytes : List ℕ) (places p : ℕ) → Clear (put_table (plate memory places) p (length bytes)) → used memory (cells memory) < cells memory
plate_room memory bytes places p allowed =
    ltb-true (used memory (cells memory)) (cells memory)
    (and_parts (ltb p places) (ltb (used memory (cells memory)) (cells memory)) (put_allowed (plate memory places) p (length bytes) allowed).2).1

-- a put that no row refuses, which has written mark and record into the cell after the used ones
module _ (memory bytes memory' : List ℕ) (places p : ℕ) (fit : Fit memory places)
    (allowed : Clear (put_table (plate memory places) p (length bytes)))
    (e : memory' ≡ written (1026 * used memory (cells memory)) (big_endian 2 (p + 1) ++ bytes) memory) where
  u : ℕ
  u = used memory (cells memory)

  from : ℕ
  from = 1026 * u

  cell : List ℕ
  cell = big_endian 2 (p + 1) ++ bytes

  inside : p < places
  inside = (put_allowed (plate memory places) p (length bytes) allowed).1

  size : length bytes ≡ 1024
  size = (put_allowed (plate memory places) p (length bytes) allowed).0

  room : u < cells memory
  unfolding u
  room = plate_room memory bytes places p allowed

  cell-long : length cell ≡ 1026
  unfolding cell big_endian
  cell-long = omega (arith, size)

  fits : from + length cell ≤ length memory
  unfolding from
  fits = omega (arith, cell-long, room)

  e' : memory' ≡ written from cell memory
  unfolding from cell u
  e' = e

  long : length memory' ≡ length memory
  long = rw e' (length-written from cell memory fits)

  same_cells : cells memory' ≡ cells memory
  same_cells = ap plate_cells long

  byte_apart : (i : ℕ) → (i < from) ⊎ (from + length cell ≤ i) → get_or memory' i 0 ≡ get_or memory i 0
  byte_apart i h = rw e' (get_or-apart from cell memory fits i h)

  byte_here : (i : ℕ) → i < length cell → get_or memory' (from + i) 0 ≡ get_or cell i 0
  byte_here i h = ap (λ m. get_or m (from + i) 0) e' ∙ get_or-written from cell memory fits i h

  apart : (j : ℕ) → Not (j ≡ u) → (j < u) ⊎ (u < j)
  apart j ne = elim (cases_lt j u) [ inl l ↦ inl l | inr l ↦ inr (omega arith) ]

  mark-apart : (j : ℕ) → Not (j ≡ u) → mark memory' j ≡ mark memory j
  unfolding from
  mark-apart j ne = elim (apart j ne) [
    | inl l ↦ ap₂ (λ a b. 256 * a + b) (byte_apart (1026 * j) (inl (omega arith))) (byte_apart (1026 * j + 1) (inl (omega arith)))
    | inr l ↦ ap₂ (λ a b. 256 * a + b) (byte_apart (1026 * j) (inr (omega (arith, cell-long)))) (byte_apart (1026 * j + 1) (inr (omega (arith, cell-long))))
  ]

  mark-here : mark memory' u ≡ p + 1
  unfolding from cell big_endian
  mark-here =
      let a : get_or memory' (1026 * u) 0 ≡ (p + 1) / 256 % 256 = ap (λ t. get_or memory' t 0) (omega arith) ∙ byte_here 0 (omega (arith, cell-long)) in
      let b : get_or memory' (1026 * u + 1) 0 ≡ (p + 1) % 256 = byte_here 1 (omega (arith, cell-long)) in
      ap₂ (λ x y. 256 * x + y) a b ∙ omega (arith, inside, fit.few)

  record_apart : (j : ℕ) → Not (j ≡ u) → cell_bytes memory' j ≡ cell_bytes memory j
  unfolding from
  record_apart j ne =
      rw e' (elim (apart j ne) [ inl l ↦ part_below from cell memory fits (1026 * j + 2) 1024 (omega arith) | inr l ↦ part_above from cell memory fits (1026 * j + 2) 1024 (omega (arith, cell-long)) ])

  record_here : cell_bytes memory' u ≡ bytes
  unfolding from cell
  record_here =
      let sign : List ℕ = big_endian 2 (p + 1) in
      let two : length sign ≡ 2 = length-big_endian 2 (p + 1) in
      let fits' : from + length sign + length bytes ≤ length memory = omega (arith, fits, cell-long, two, size) in
      let later : List ℕ = written (from + length sign) bytes memory in
      ap (λ m. cell_bytes m u) e'
      ∙ ap (part (from + 2) 1024) (sym (written-before from sign bytes memory fits'))
      ∙ part_above from sign later (omega (arith, length-written (from + length sign) bytes memory fits', fits')) (from + 2) 1024 (omega (arith, two))
      ∙ ap (λ n. part n 1024 later) (omega (arith, two))
      ∙ part-written (from + length sign) bytes memory fits' 1024 (sym size)

  front : Front memory (cells memory) u
  unfolding u
  front = front_used memory (cells memory) fit.order

  front' : Front memory' (cells memory) (u + 1)
  front' = record {
    within = omega (arith, room);
    before = λ i l. elim (cases_eq i u) [ inl h ↦ λ z. omega (arith, mark-here, subst (λ t. mark memory' t ≡ 0) h z) | inr h ↦ λ z. front.before i (omega arith) (sym (mark-apart i h) ∙ z) ];
    after = λ i k l. mark-apart i (omega arith) ∙ front.after i (omega arith) l;
  }

  gap' : (i j : ℕ) → i < j → j < cells memory → mark memory' i ≡ 0 → mark memory' j ≡ 0
  gap' i j l k z = grind (arith, front')

  used' : used memory' (cells memory) ≡ u + 1
  used' = front_one memory' (cells memory) _ (u + 1) (front_used memory' (cells memory) gap') front'

  marks' : (j : ℕ) → j < cells memory → mark memory' j ≤ places
  marks' j l = elim (cases_eq j u) [ inl h ↦ rw h (omega (arith, mark-here, inside)) | inr h ↦ omega (arith, mark-apart j h, fit.marks j l) ]

  last_is_here : last_cell memory' p (cells memory) ≡ Some u
  last_is_here = last_is memory' p (cells memory) (Some u) (room, mark-here, λ i k l z. omega (arith, front'.after i (omega arith) l, z))

  same_mark : (q : ℕ) → Not (q ≡ p) → (i : ℕ) → i < cells memory → eqb (mark memory' i) (q + 1) ≡ eqb (mark memory i) (q + 1)
  same_mark q ne i l = elim (cases_eq i u) [
    | inl h ↦ ne_eqb (mark memory' i) (q + 1) (λ z. ne (omega (arith, subst (λ t. mark memory' t ≡ p + 1) (sym h) mark-here, z)))
        ∙ sym (ne_eqb (mark memory i) (q + 1) (λ z. omega (arith, front.after i (omega arith) l, z)))
    | inr h ↦ ap (λ m. eqb m (q + 1)) (mark-apart i h)
  ]

  held_same : (q : ℕ) → (o : Option ℕ) → LastCell memory q (cells memory) o → held memory' o ≡ held memory o
  held_same q None h = refl
  held_same q (Some j) h = record_apart j (λ z. omega (arith, h.1, subst (λ t. mark memory t ≡ 0) (sym z) (front.after u (omega arith) room)))

  pub plate_puts : Puts (plate memory places) p bytes (Ok tt) (plate memory' places)
  unfolding u
  plate_puts = put_done (plate memory places) p bytes (plate memory' places) allowed (record {
    count = refl;
    here = rw (same_cells, last_is_here) record_here;
    elsewhere = λ q l ne. rw (same_cells, last_same memory memory' q (cells memory) (same_mark q ne)) (held_same q (last_cell memory q (cells memory)) (last_law memory q (cells memory)));
    opens_none = λ q o. and_from (ltb q places) (ltb u (cells memory)) (and_parts (ltb q places) (ltb (used memory' (cells memory')) (cells memory')) o).0 (lt-ltb u (cells memory) room);
  })

  pub plate_stores : PlateStores memory p bytes memory'
  unfolding u from cell
  plate_stores = record {
    cell = u;
    first = first-unused memory u front room;
    all = e;
    spare = rw e (drop-written from cell memory fits (1026 * cells memory) (omega (arith, cell-long, room)));
  }

  pub plate_counted : used memory (cells memory) + 1 ≡ used memory' (cells memory')
  unfolding u
  plate_counted = rw same_cells (sym used')

  pub plate_fit : Fit memory' places
  plate_fit = record { some = fit.some; few = fit.few; marks = rw same_cells marks'; order = rw same_cells gap' }

-- A put on a plate as the code does it: first the record is written into the first unused cell, and then its mark.
use Rattle.std.proofs.Common.{◌≡◌, ℕ, ◌+◌, ◌-◌, ◌*◌, ◌/◌, ◌%◌, ◌<◌, ◌≤◌, List, [], ◌∷◌, ◌++◌, length, take, drop, Ok, ap, ◌∙◌, ap₂, arith}
use borrow.Rule.Slice.PartMut.{put_mid}
use Rattle.std.proofs.lemmas.List.{length-append, length-take, length-drop, drop_all, append-nil}
use Rattle.octets.specs.Octets.{written, big_endian}
use Rattle.octets.proofs.Writes.{put_is, length-written, written-before}
use Rattle.faults.specs.Tables.{Clear}
use Rattle.shelf.specs.Meaning.{Puts, put_table}
use Rattle.plate.specs.Plates.{cells, mark, NoMarkAbove, Fit, used, plate, PlateStores}
use Rattle.shelf.proofs.Tables.{put_allowed}
use Rattle.plate.proofs.Putting as plates

-- no used cell after an unused one, on a plate that has places
abbrev pub InOrder : (memory : List ℕ) (places : ℕ) → Type 0
InOrder memory places = (i j : ℕ) → (0 < places) × (i < j) × (j < cells memory) × (mark memory i ≡ 0) → mark memory j ≡ 0

-- a cell after a record and then its mark were written into it
marked-is : (cell sign bytes : List ℕ) → length cell ≡ 1026 → length sign ≡ 2 → length bytes ≡ 1024 → written 0 sign (written 2 bytes cell) ≡ sign ++ bytes
marked-is cell sign bytes whole two size =
    let front : 2 ≡ 0 + length sign = omega (arith, two) in
    ap (λ k. written 0 sign (written k bytes cell)) front
    ∙ written-before 0 sign bytes cell (omega (arith, whole, two, size))
    ∙ ap (λ t. (sign ++ bytes) ++ t) (drop_all (0 + length (sign ++ bytes)) cell (simp length-append (omega (arith, whole, two, size)))) ∙ append-nil (sign ++ bytes)

pub record PutOnPlate (memory bytes : List ℕ) (places n p : ℕ) (memory' : List ℕ) : Type 0 where
  pub puts : Puts (plate memory places) p bytes (Ok tt) (plate memory' places)
  pub stores : PlateStores memory p bytes memory'
  pub counted : n + 1 ≡ used memory' (cells memory')
  pub marks : 0 < places → NoMarkAbove memory' places
  pub order : InOrder memory' places

-- n is the count of used cells, and the put was allowed
module _ (memory bytes : List ℕ) (places n p : ℕ) (few : places ≤ 4096) (counted : n ≡ used memory (cells memory))
    (marks : 0 < places → NoMarkAbove memory places) (order : InOrder memory places)
    (allowed : Clear (put_table (plate memory places) p (length bytes))) where
  inside : p < places
  inside = (put_allowed (plate memory places) p (length bytes) allowed).1

  size : length bytes ≡ 1024
  size = (put_allowed (plate memory places) p (length bytes) allowed).0

  abbrev pub cell : List ℕ
  cell = take (1026 * n + 1026 - 1026 * n) (drop (1026 * n) memory)

  whole : length cell ≡ 1026
  whole = simp (length-take, length-drop) (omega (arith, plates.plate_room memory bytes places p allowed, counted))

  fit : Fit memory places
  fit = record {
    some = omega (arith, inside);
    few = few;
    marks = marks (omega (arith, inside));
    order = λ i j k l z. order i j (omega (arith, inside), k, l, z);
  }

  pub record_fits : 2 + length bytes ≤ length cell
  record_fits = omega (arith, whole, size)

  module _ (sign between : List ℕ) (s : sign ≡ ((p + 1) / 256 % 256) ∷ ((p + 1) % 256) ∷ []) (first : between ≡ written 2 bytes cell) where
    two : length sign ≡ 2
    two = ap length s

    pub mark_fits : 0 + length sign ≤ length between
    mark_fits = omega (arith, two, whole, ap length first, length-written 2 bytes cell record_fits)

    module _ (marked : List ℕ) (second : marked ≡ written 0 sign between) where
      all : put_mid (1026 * n) (1026 * n + 1026 - 1026 * n) memory marked ≡ written (1026 * used memory (cells memory)) (big_endian 2 (p + 1) ++ bytes) memory
      unfolding big_endian
      all =
          put_is (1026 * n) 1026 memory marked (sign ++ bytes) (second ∙ ap (written 0 sign) first ∙ marked-is cell sign bytes whole two size) (length-append sign bytes ∙ omega (arith, two, size))
          ∙ ap₂ (λ k t. written (1026 * k) (t ++ bytes) memory) counted s

      -- what the put answers and leaves, and what the struct goes on knowing
      pub done : PutOnPlate memory bytes places n p (put_mid (1026 * n) (1026 * n + 1026 - 1026 * n) memory marked)
      done =
          let fit' = plates.plate_fit memory bytes _ places p fit allowed all in
          record {
            puts = plates.plate_puts memory bytes _ places p fit allowed all;
            stores = plates.plate_stores memory bytes _ places p fit allowed all;
            counted = ap (λ k. k + 1) counted ∙ plates.plate_counted memory bytes _ places p fit allowed all;
            marks = λ some. fit'.marks;
            order = λ i j h. fit'.order i j h.1 h.2 h.3;
          }

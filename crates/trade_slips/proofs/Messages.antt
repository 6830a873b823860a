-- The messages of contents, as the code writes and reads them byte by byte.
use Rattle.std.proofs.Common.{◌≡◌, ℕ, ◌/◌, ◌%◌, ◌<◌, ◌≤◌, ◌^◌, Bool, true, false, drop, List, [], ◌∷◌, ◌++◌, length, Some, None, refl, ap, ◌∙◌, ap₂, sym, get_or, w16, w32, w64, arith}
use Rattle.std.specs.Prelude.{nat_le}
use Rattle.std.specs.Bool.{then_some}
use Rattle.std.specs.Int.{from_be_bytes}
use Rattle.std.specs.List.{list_all}
use Rattle.std.proofs.lemmas.Bool.{cond-true, and_from, lt-ltb, le-leb, lt-leb}
use Rattle.std.proofs.Math.Bool.{true-and, and-true}
use Rattle.std.proofs.Math.Dec.{leb-zero}
use Rattle.octets.specs.Octets.{Octets, big_endian, spelt}
use Rattle.octets.proofs.Bytewise.{one_by_one, four_bytes, eight_bytes}
use Rattle.slip_kinds.specs.Fields.{in_range}
use Rattle.slip_kinds.specs.Kinds.{ReadsBack}
use Rattle.slip_kinds.proofs.Fields.{numbers_in, fits_its_bytes, begins, length-message, read_back}
use Rattle.trade_slips.specs.declared.contents.Receipt.{Receipt}
use Rattle.trade_slips.specs.Trade.{design_fields, of_design, receipt_fields, receipt}

-- a design and a number
module _ (kind greatest : ℕ) where
  -- their bytes, where they are in range
  pub design_bytes : (n k : ℕ) → true ≡ list_all in_range (design_fields greatest n k)
      → of_design kind greatest n k ≡ Some (kind ∷ (n / 16777216 % 256) ∷ (n / 65536 % 256) ∷ (n / 256 % 256) ∷ (n % 256) ∷ (k / 256 % 256) ∷ (k % 256) ∷ [])
  unfolding big_endian
  design_bytes n k within =
      cond-true (list_all in_range (design_fields greatest n k)) _ None (sym within)
      ∙ ap (λ bs. Some (kind ∷ (bs ++ (big_endian 2 k ++ [])))) (sym (four_bytes n))

  -- every message of theirs
  module _ (m : List ℕ) (n k : ℕ) (e : of_design kind greatest n k ≡ Some m) where
    pub begins-of_design : kind ≡ get_or m 0 0
    begins-of_design = begins kind (design_fields greatest n k) m e

    pub length-of_design : 7 ≡ length m
    unfolding big_endian
    length-of_design = length-message kind (design_fields greatest n k) m e

  -- 7 bytes, the first of which is that of the kind, and the others spell them
  module _ (n k : ℕ) (m : List ℕ) (low : 7 ≤ length m) (high : length m < 8) (first : get_or m 0 0 ≡ kind)
      (design : n ≡ from_be_bytes w32 (get_or m 1 0 ∷ get_or m 2 0 ∷ get_or m 3 0 ∷ get_or m 4 0 ∷ []))
      (number : k ≡ from_be_bytes w16 (get_or m 5 0 ∷ get_or m 6 0 ∷ []))
      (bytes : Octets m) (fit : greatest < 2 ^ 16)
    where
      design_back : (b : Bool) → b ≡ list_all in_range (design_fields greatest n k)
          → ReadsBack (λ (p : ℕ × ℕ). of_design kind greatest p.0 p.1) m (then_some b (n, k))
      unfolding spelt big_endian
      design_back b test =
          let long : length m ≡ 7 = omega arith in
          let x : n ≡ spelt (get_or m 1 0 ∷ get_or m 2 0 ∷ get_or m 3 0 ∷ get_or m 4 0 ∷ []) 0 = omega arith in
          let y : k ≡ spelt (get_or m 5 0 ∷ get_or m 6 0 ∷ []) 0 = omega arith in
          let spells : (n ∷ k ∷ []) ≡ numbers_in (4 ∷ 2 ∷ []) (drop 1 m) =
          ap₂ (λ x y. x ∷ y ∷ []) x y
          ∙ ap (λ t. numbers_in (4 ∷ 2 ∷ []) (drop 1 t)) (sym (one_by_one 7 m long)) in
          let pair : List ℕ → ℕ × ℕ = λ ns. (get_or ns 0 0, get_or ns 1 0) in
          let fits : (p : ℕ × ℕ) → list_all fits_its_bytes (design_fields greatest p.0 p.1) ≡ true =
          λ p. and_from _ _ (lt-ltb greatest 65536 fit) refl in
          read_back kind (λ (p : ℕ × ℕ). design_fields greatest p.0 p.1) pair (λ p. refl) (λ p q. refl)
          fits m (n, k) spells bytes first long b test

      pub design_read : true ≡ list_all in_range (design_fields greatest n k) → of_design kind greatest n k ≡ Some m
      design_read within = design_back true within

      pub design_unread : false ≡ list_all in_range (design_fields greatest n k)
          → (x y : ℕ) → of_design kind greatest x y ≡ Some m → ⊥
      design_unread outside x y e = design_back false outside (x, y) e

-- cents have no least
cents_test : (r : Receipt) → nat_le r.cents 1000000000000 ≡ list_all in_range (receipt_fields r)
cents_test r = sym (simp (leb-zero, true-and, and-true))

-- their bytes, where they are in range
pub receipt_bytes : (r : Receipt) → r.cents ≤ 1000000000000
    → receipt r ≡ Some (3 ∷ (r.cents / 72057594037927936 % 256) ∷ (r.cents / 281474976710656 % 256) ∷ (r.cents / 1099511627776 % 256) ∷ (r.cents / 4294967296 % 256) ∷ (r.cents / 16777216 % 256) ∷ (r.cents / 65536 % 256) ∷ (r.cents / 256 % 256) ∷ (r.cents % 256) ∷ [])
receipt_bytes r most =
    cond-true (list_all in_range (receipt_fields r)) _ None (sym (cents_test r) ∙ le-leb r.cents 1000000000000 most)
    ∙ ap (λ bs. Some (3 ∷ (bs ++ []))) (sym (eight_bytes r.cents))

-- every message of theirs
module _ (m : List ℕ) (r : Receipt) (e : receipt r ≡ Some m) where
  pub begins-receipt : 3 ≡ get_or m 0 0
  begins-receipt = begins 3 (receipt_fields r) m e

  pub length-receipt : 9 ≡ length m
  unfolding big_endian
  length-receipt = length-message 3 (receipt_fields r) m e

-- 9 bytes, the first of which is that of the kind, and the others spell them
module _ (cents : ℕ) (m : List ℕ) (low : 9 ≤ length m) (high : length m < 10) (first : get_or m 0 0 ≡ 3)
    (number : cents ≡ from_be_bytes w64 (get_or m 1 0 ∷ get_or m 2 0 ∷ get_or m 3 0 ∷ get_or m 4 0 ∷ get_or m 5 0 ∷ get_or m 6 0 ∷ get_or m 7 0 ∷ get_or m 8 0 ∷ []))
    (bytes : Octets m)
  where
    abbrev pub the_receipt : Receipt
    the_receipt = record { cents = cents }

    receipt_back : (b : Bool) → b ≡ list_all in_range (receipt_fields the_receipt)
        → ReadsBack receipt m (then_some b the_receipt)
    unfolding spelt big_endian
    receipt_back b test =
        let long : length m ≡ 9 = omega arith in
        let x : cents ≡ spelt (get_or m 1 0 ∷ get_or m 2 0 ∷ get_or m 3 0 ∷ get_or m 4 0 ∷ get_or m 5 0 ∷ get_or m 6 0 ∷ get_or m 7 0 ∷ get_or m 8 0 ∷ []) 0 = omega arith in
        let spells : (cents ∷ []) ≡ numbers_in (8 ∷ []) (drop 1 m) =
        ap (λ x. x ∷ []) x ∙ ap (λ t. numbers_in (8 ∷ []) (drop 1 t)) (sym (one_by_one 9 m long)) in
        read_back 3 receipt_fields (λ ns. record { cents = get_or ns 0 0 }) (λ c. refl) (λ c d. refl)
        (λ c. refl) m the_receipt spells bytes first long b test

    pub receipt_read : cents ≤ 1000000000000 → receipt the_receipt ≡ Some m
    receipt_read most = receipt_back true (sym (le-leb cents 1000000000000 most) ∙ cents_test the_receipt)

    pub receipt_unread : 1000000000000 < cents → (r : Receipt) → receipt r ≡ Some m → ⊥
    receipt_unread more = receipt_back false (sym (lt-leb cents 1000000000000 more) ∙ cents_test the_receipt)

-- for the functions that write, and for those that read
pub ruleset bytes = (design_bytes, receipt_bytes)

pub ruleset reads = (begins-of_design, length-of_design, design_read, design_unread, begins-receipt, length-receipt, receipt_read, receipt_unread)

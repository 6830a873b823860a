-- Messages of remakes, as the code writes and reads them.
use Rattle.std.proofs.Common.{◌≡◌, ℕ, zero, suc, ◌<◌, ◌≤◌, ◌/◌, ◌%◌, Bool, true, false, ◌&&◌, drop, List, [], ◌∷◌, ◌++◌, length, Some, None, refl, ap, ◌∙◌, ap₂, sym, get_or, w32, arith}
use Rattle.std.specs.Prelude.{nat_eq, nat_le}
use Rattle.std.specs.Bool.{then_some}
use Rattle.std.specs.Int.{from_be_bytes, from_bool}
use Rattle.std.specs.List.{list_all, flat_map}
use Rattle.std.proofs.lemmas.Bool.{cond-true, leb-true, and_parts}
use Rattle.std.proofs.lemmas.Option.{cond_some}
use Rattle.octets.specs.Octets.{Octets, big_endian, spelt}
use Rattle.octets.proofs.Bytewise.{one_by_one, four_bytes}
use Rattle.slip_kinds.specs.Fields.{in_range, bytes_of}
use Rattle.slip_kinds.specs.Kinds.{ReadsBack}
use Rattle.slip_kinds.proofs.Fields.{numbers_in, begins, length-message, read_back}
use Rattle.test_kinds.specs.declared.remakes.Remake.{Remake}
use Rattle.test_kinds.specs.Remakes.{remake_fields, remake}
use Rattle.test_kinds.specs.Numbers.{of_numbers, given}

bit_below : (b : Bool) → from_bool b < 2
bit_below true = omega arith
bit_below false = omega arith

bit_of : (n : ℕ) → n ≤ 1 → from_bool (nat_eq n 1) ≡ n
bit_of zero h = refl
bit_of (suc zero) h = refl
bit_of (suc (suc n)) h = absurd (omega arith)

-- the bytes of a remake
pub remake_bytes : (c : Remake) → true ≡ list_all in_range (remake_fields c)
    → remake c ≡ Some (4 ∷ (c.design / 16777216 % 256) ∷ (c.design / 65536 % 256) ∷ (c.design / 256 % 256) ∷ (c.design % 256) ∷ c.pane ∷ from_bool c.urgent ∷ [])
unfolding big_endian
remake_bytes c within =
    let tests = (and_parts (nat_le 1 c.design && nat_le c.design 99999999) _ (sym within)).1 in
    let pane = leb-true c.pane 255 (and_parts (nat_le 0 c.pane) _ (and_parts (nat_le 0 c.pane && nat_le c.pane 255) _ tests).0).1 in
    let p : c.pane % 256 ≡ c.pane = omega arith in
    let u : from_bool c.urgent % 256 ≡ from_bool c.urgent = omega (arith, bit_below c.urgent) in
    cond-true (list_all in_range (remake_fields c)) _ None (sym within)
    ∙ ap (λ bs. Some (4 ∷ (bs ++ (big_endian 1 c.pane ++ (big_endian 1 (from_bool c.urgent) ++ []))))) (sym (four_bytes c.design))
    ∙ ap₂ (λ x y. Some (4 ∷ (c.design / 16777216 % 256) ∷ (c.design / 65536 % 256) ∷ (c.design / 256 % 256) ∷ (c.design % 256) ∷ x ∷ y ∷ [])) p u

-- the form of a message
module _ (m : List ℕ) (c : Remake) (e : remake c ≡ Some m) where
  pub begins-remake : 4 ≡ get_or m 0 0
  begins-remake = begins 4 (remake_fields c) m e

  pub length-remake : 7 ≡ length m
  unfolding big_endian
  length-remake = length-message 4 (remake_fields c) m e

  pub urgent-remake : get_or m 6 0 < 2
  unfolding big_endian
  urgent-remake =
      let bytes = (cond_some (list_all in_range (remake_fields c)) (4 ∷ flat_map bytes_of (remake_fields c)) m e).1 in
      let last : from_bool c.urgent % 256 ≡ get_or m 6 0 = ap (λ bs. get_or bs 6 0) bytes in
      omega (arith, bit_below c.urgent)

-- what 7 bytes are read as
module _ (design : ℕ) (m : List ℕ) (low : 7 ≤ length m) (high : length m < 8)
    (number : design ≡ from_be_bytes w32 (get_or m 1 0 ∷ get_or m 2 0 ∷ get_or m 3 0 ∷ get_or m 4 0 ∷ []))
    (bit : get_or m 6 0 ≤ 1) (bytes : Octets m) (first : get_or m 0 0 ≡ 4)
  where
    abbrev the_remake : Remake
    the_remake = record { design = design; pane = get_or m 5 0; urgent = nat_eq (get_or m 6 0) 1 }

    back : (b : Bool) → b ≡ list_all in_range (remake_fields the_remake) → ReadsBack remake m (then_some b the_remake)
    unfolding spelt big_endian
    back b test =
        let long : length m ≡ 7 = omega arith in
        let x : design ≡ spelt (get_or m 1 0 ∷ get_or m 2 0 ∷ get_or m 3 0 ∷ get_or m 4 0 ∷ []) 0 = omega arith in
        let y : get_or m 5 0 ≡ spelt (get_or m 5 0 ∷ []) 0 = omega arith in
        let z : from_bool (nat_eq (get_or m 6 0) 1) ≡ spelt (get_or m 6 0 ∷ []) 0 = bit_of (get_or m 6 0) bit ∙ omega arith in
        let spells : (design ∷ get_or m 5 0 ∷ from_bool (nat_eq (get_or m 6 0) 1) ∷ []) ≡ numbers_in (4 ∷ 1 ∷ 1 ∷ []) (drop 1 m) =
        ap₂ (λ u v. u ∷ v) x (ap₂ (λ u v. u ∷ v ∷ []) y z)
        ∙ ap (λ t. numbers_in (4 ∷ 1 ∷ 1 ∷ []) (drop 1 t)) (sym (one_by_one 7 m long)) in
        read_back 4 remake_fields of_numbers given (λ c d. refl) (λ c. refl) m the_remake spells bytes first long b test

    pub remake_read : true ≡ list_all in_range (remake_fields the_remake) → remake the_remake ≡ Some m
    remake_read within = back true within

    pub remake_unread : false ≡ list_all in_range (remake_fields the_remake) → (c : Remake) → remake c ≡ Some m → ⊥
    remake_unread outside = back false outside

pub ruleset reads = (begins-remake, length-remake, urgent-remake, remake_read, remake_unread)

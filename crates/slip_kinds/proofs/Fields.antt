-- Messages of a kind byte and numbers: they are those of a kind of slip, and are read back.
use Rattle.std.proofs.Common.{◌≡◌, ℕ, zero, suc, ◌+◌, ◌^◌, ◌<◌, ◌≤◌, Bool, true, false, ◌&&◌, List, [], ◌∷◌, ◌++◌, map, length, take, drop, get_or, Option, Some, None, sym, refl, ap, ◌∙◌, ap₂, subst, drop-cons, arith}
use Rattle.std.specs.Prelude.{nat_lt, nat_le}
use Rattle.std.specs.Bool.{then_some}
use Rattle.std.specs.List.{list_all, flat_map, sum_by}
use Rattle.std.proofs.lemmas.Bool.{ltb-true, leb-true, and_parts, cond-true, both_ways}
use Rattle.std.proofs.lemmas.List.{length-take, length-drop, length-append, take-append-drop, get_or-drop}
use Rattle.std.proofs.lemmas.List.Concat.{length-flat_map}
use Rattle.std.proofs.lemmas.Option.{cond_some}
use Rattle.std.proofs.Math.Seq.{take-append_seam, drop-append_seam}
use Rattle.octets.specs.Octets.{Octets, spelt, big_endian}
use Rattle.octets.proofs.Numbers.{append-bytes, take-bytes, spelt-big_endian, big_endian_bytes, length-big_endian}
use Rattle.octets.proofs.Spelt.{big_endian-spelt}
use Rattle.slip_kinds.specs.Fields.{Field, in_range, bytes_of, message}
use Rattle.slip_kinds.specs.Kinds.{IsKind, ReadsBack}

abbrev pub numbers : List Field → List ℕ
numbers fields = map (λ f. f.number) fields

abbrev pub sizes : List Field → List ℕ
sizes fields = map (λ f. f.size) fields

abbrev pub total_size : List Field → ℕ
total_size fields = sum_by (λ f. f.size) fields

-- the greatest number of a field fits the bytes that it takes
abbrev pub fits_its_bytes : Field → Bool
fits_its_bytes f = nat_lt f.greatest (256 ^ f.size)

-- and the kind fits its byte, and the message a slip
abbrev pub fits : (kind : ℕ) (fields : List Field) → Bool
fits kind fields =
    nat_lt kind 256 && (nat_le (total_size fields) 14 && list_all fits_its_bytes fields)

-- the numbers that bytes spell, by how many each of them takes
abbrev pub numbers_in : (sizes bytes : List ℕ) → List ℕ
numbers_in [] bytes = []
numbers_in (n ∷ ns) bytes = spelt (take n bytes) 0 ∷ numbers_in ns (drop n bytes)

small : (f : Field) → fits_its_bytes f ≡ true → in_range f ≡ true → f.number < 256 ^ f.size
small f a b =
    let below = ltb-true f.greatest (256 ^ f.size) a in
    let within = leb-true f.number f.greatest (and_parts (nat_le f.least f.number) _ b).1 in
    omega arith

-- the bytes of fields spell their numbers
numbers_spelt : (fields : List Field) → list_all fits_its_bytes fields ≡ true → list_all in_range fields ≡ true
    → numbers_in (sizes fields) (flat_map bytes_of fields) ≡ numbers fields
numbers_spelt [] a b = refl
numbers_spelt (f ∷ fields) a b =
    let fit = and_parts (fits_its_bytes f) _ a in
    let within = and_parts (in_range f) _ b in
    let rest : List ℕ = flat_map bytes_of fields in
    let long : length (bytes_of f) ≡ f.size = length-big_endian f.size f.number in
    let front : take f.size (bytes_of f ++ rest) ≡ bytes_of f =
    ap (λ n. take n (bytes_of f ++ rest)) (sym long) ∙ take-append_seam (bytes_of f) rest in
    let back : drop f.size (bytes_of f ++ rest) ≡ rest =
    ap (λ n. drop n (bytes_of f ++ rest)) (sym long) ∙ drop-append_seam (bytes_of f) rest in
    ap₂ (λ x xs. x ∷ xs)
    (ap (λ bs. spelt bs 0) front ∙ spelt-big_endian f.size f.number (small f fit.0 within.0))
    (ap (numbers_in (sizes fields)) back ∙ numbers_spelt fields fit.1 within.1)

drop-bytes : (bs : List ℕ) (n : ℕ) → Octets bs → Octets (drop n bs)
drop-bytes bs n o i = omega (arith, get_or-drop n bs i 0, o (n + i))

-- and bytes are those of the fields whose numbers they spell
bytes_back : (fields : List Field) (bs : List ℕ) → Octets bs → length bs ≡ length (flat_map bytes_of fields)
    → numbers fields ≡ numbers_in (sizes fields) bs → flat_map bytes_of fields ≡ bs
bytes_back [] [] o l e = refl
bytes_back [] (b ∷ bs) o l e = absurd (omega arith)
bytes_back (f ∷ fields) bs o l e =
    let rest : List ℕ = flat_map bytes_of fields in
    let front : List ℕ = take f.size bs in
    let size : length (bytes_of f) ≡ f.size = length-big_endian f.size f.number in
    let whole : length bs ≡ length (bytes_of f) + length rest = l ∙ length-append (bytes_of f) rest in
    let long : f.size ≡ length front = sym (length-take f.size bs ∙ omega arith) in
    let behind : length (drop f.size bs) ≡ length rest = length-drop f.size bs ∙ omega arith in
    let number : f.number ≡ spelt front 0 = cc in
    let others : numbers fields ≡ numbers_in (sizes fields) (drop f.size bs) = cc in
    ap₂ (λ a b. a ++ b)
    (ap₂ big_endian long number ∙ big_endian-spelt front (take-bytes bs f.size o))
    (bytes_back fields (drop f.size bs) (drop-bytes bs f.size o) behind others)
    ∙ take-append-drop f.size bs

octets_of : (fields : List Field) → Octets (flat_map bytes_of fields)
octets_of [] i = omega arith
octets_of (f ∷ fields) i = append-bytes (bytes_of f) (flat_map bytes_of fields) (big_endian_bytes f.size f.number) (octets_of fields) i

octets_after : (b : ℕ) (bs : List ℕ) → b < 256 → Octets bs → Octets (b ∷ bs)
octets_after b bs h o zero = h
octets_after b bs h o (suc i) = o i

-- the message of fields
module _ (kind : ℕ) (fields : List Field) (m : List ℕ) (e : message kind fields ≡ Some m) where
  parts : (list_all in_range fields ≡ true) × (kind ∷ flat_map bytes_of fields ≡ m)
  parts = cond_some (list_all in_range fields) (kind ∷ flat_map bytes_of fields) m e

  pub begins : kind ≡ get_or m 0 0
  begins = ap (λ bs. get_or bs 0 0) parts.1

  pub length-message : suc (length (flat_map bytes_of fields)) ≡ length m
  length-message = ap length parts.1

  -- the numbers are those that it spells after the byte of the kind
  spells : list_all fits_its_bytes fields ≡ true → numbers fields ≡ numbers_in (sizes fields) (drop 1 m)
  spells fit =
      sym (numbers_spelt fields fit parts.0)
      ∙ ap (λ bs. numbers_in (sizes fields) (drop 1 bs)) parts.1

-- contents that are given by their numbers, all of them with fields of the same sizes
module _ {Content : Type 0} (kind : ℕ) (fields : Content → List Field) (content : List ℕ → Content)
    (given : (c : Content) → content (numbers (fields c)) ≡ c)
    (same_sizes : (c d : Content) → sizes (fields c) ≡ sizes (fields d))
  where
    abbrev writes : Content → Option (List ℕ)
    writes c = message kind (fields c)

    module _ (fit : (c : Content) → list_all fits_its_bytes (fields c) ≡ true) (m : List ℕ)
        (c : Content) (n : numbers (fields c) ≡ numbers_in (sizes (fields c)) (drop 1 m))
      where
        -- a message that spells the numbers of a content is of no other
        only : (d : Content) → writes d ≡ Some m → c ≡ d
        only d e =
            let same : numbers (fields c) ≡ numbers (fields d) =
            n
            ∙ ap (λ sizes. numbers_in sizes (drop 1 m)) (same_sizes c d)
            ∙ sym (spells kind (fields d) m e (fit d)) in
            sym (given c) ∙ ap content same ∙ given d

        -- and it is the message of that content, where the numbers are in range
        pub read_back : Octets m → get_or m 0 0 ≡ kind → length m ≡ suc (length (flat_map bytes_of (fields c)))
            → (b : Bool) → b ≡ list_all in_range (fields c) → ReadsBack writes m (then_some b c)
        read_back o first long true within =
            let rest : flat_map bytes_of (fields c) ≡ drop 1 m =
            bytes_back (fields c) (drop 1 m) (drop-bytes m 1 o) (length-drop 1 m ∙ omega arith) n in
            cond-true (list_all in_range (fields c)) (Some (kind ∷ flat_map bytes_of (fields c))) None (sym within)
            ∙ ap Some (ap₂ (λ x xs. x ∷ xs) (sym first) rest ∙ sym (drop-cons m 0 0 (omega arith)))
        read_back o first long false outside = λ d e.
            let within : list_all in_range (fields c) ≡ true =
            ap (λ x. list_all in_range (fields x)) (only d e) ∙ (parts kind (fields d) m e).0 in
            both_ways (list_all in_range (fields c)) (sym outside) within

    pub kind_of_fields : ((c : Content) → fits kind (fields c) ≡ true) → IsKind writes
    kind_of_fields fit =
        let byte = λ (c : Content). and_parts (nat_lt kind 256) _ (fit c) in
        let room = λ (c : Content). and_parts (nat_le (total_size (fields c)) 14) _ (byte c).1 in
        let each : (c : Content) → list_all fits_its_bytes (fields c) ≡ true = λ c. (room c).1 in
        record {
          short = λ c m e.
              let long : length (flat_map bytes_of (fields c)) ≡ total_size (fields c) =
              length-flat_map bytes_of (fields c) ∙ simp length-big_endian in
              let short : total_size (fields c) ≤ 14 = leb-true (total_size (fields c)) 14 (room c).0 in
              omega (arith, length-message kind (fields c) m e);
          bytes = λ c m e. subst Octets (parts kind (fields c) m e).1
              (octets_after kind (flat_map bytes_of (fields c))
              (ltb-true kind 256 (byte c).0) (octets_of (fields c)));
          one = λ c d m e. only each m c (spells kind (fields c) m e (each c)) d;
        }

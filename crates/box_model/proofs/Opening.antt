-- What lies where in the record of a sheet, and that it opens at its place.
use Rattle.std.proofs.Common.{◌≡◌, ℕ, ◌+◌, ◌-◌, ◌<◌, ◌≤◌, ◌^◌, List, ◌++◌, length, drop, sym, refl}
use Rattle.std.proofs.Common.{ap, ◌∙◌, subst, arith}
use Rattle.std.proofs.lemmas.List.{length-replicate, append_assoc}
use Rattle.octets.specs.Octets.{zeros, big_endian, spelt, part}
use Rattle.octets.proofs.Numbers.{length-big_endian, spelt-big_endian, spelt-zeros}
use Rattle.modes.specs.Cascade.{ctr, tag}
use Rattle.modes.proofs.Streams.{length-ctr, ctr_twice}
use Rattle.records.specs.Records.{empty, number_in, length_in, tag_in, WellFormed}
use Rattle.records.specs.Sheets.{sheet, nonce_of, associated, head_of, right_tag, opened}
use Rattle.records.proofs.Layouts.{Layout, layout}
use Rattle.box_model.specs.States.{Made, Fair}

module _ (made : Made) (fair : Fair made) (n p : ℕ) (label message : List ℕ)
    (whole : length label ≡ 46) (small : length message ≤ 928) where
  abbrev nonce : List ℕ
  nonce = nonce_of made.sign n

  abbrev head : List ℕ
  head = head_of label message

  abbrev text : List ℕ
  text = ctr made.forward made.key nonce message

  abbrev filling : List ℕ
  filling = zeros (928 - length message)

  abbrev right : List ℕ
  right = tag made.forward made.key nonce (associated p head) text

  -- the parts of such a record with this text
  abbrev pub Lies : (text record' : List ℕ) → Type 0
  Lies xs record' =
      Layout made.sign (big_endian 8 n) label (big_endian 2 (length message)) xs filling right
      record'

  same_length : length text ≡ length message
  same_length = length-ctr made.forward made.key nonce message

  laid : (xs : List ℕ) → length xs ≡ length message
      → Lies xs (nonce ++ (head ++ (xs ++ (filling ++ right))))
  laid xs e =
      layout made.sign (big_endian 8 n) label (big_endian 2 (length message)) xs filling right
      fair.sign_fits.0 (length-big_endian 8 n) whole (length-big_endian 2 (length message))
      (omega (arith, small))
      (length-replicate {A = ℕ} (928 - length message) 0 ∙ ap (λ k. 928 - k) (sym e))

  module _ (bytes : List ℕ)
      (is : bytes ≡ sheet made.forward made.key made.sign n p label message) where
    lies : Lies text bytes
    lies = subst (Lies text) (sym is) (laid text same_length)

    pub number_ok : n < 2 ^ 64 → number_in bytes ≡ n
    number_ok h = ap (λ t. spelt t 0) lies.number_is ∙ spelt-big_endian 8 n h

    pub not_empty : 1 ≤ n → n < 2 ^ 64 → bytes ≡ empty → ⊥
    not_empty some few e = omega (arith, some, number_ok few, ap number_in e, spelt-zeros 8 0)

    pub length_ok : length_in bytes ≡ length message
    length_ok =
        ap (λ t. spelt t 0) lies.size_is
        ∙ spelt-big_endian 2 (length message) (omega (arith, small))

    size : length_in bytes ≡ length text
    size = length_ok ∙ sym same_length

    text_ok : part 64 (length_in bytes) bytes ≡ text
    text_ok = ap (λ k. part 64 k bytes) size ∙ lies.text_is

    pub formed : WellFormed bytes
    formed = (
      omega (arith, small, length_ok),
      ap (λ k. part (64 + k) (928 - k) bytes) size
          ∙ (lies.filling_is ∙ ap (λ k. zeros (928 - k)) (sym length_ok)),
    )

    pub tagged : tag_in bytes ≡ right_tag made.forward made.key p bytes
    tagged =
        lies.tag_is
        ∙ sym (λ i. tag made.forward made.key (lies.nonce_is i) (associated p (lies.head_is i))
        (text_ok i))

    -- what an opening makes of it
    opened_is :
        opened made.forward made.key bytes ≡ nonce ++ (head ++ (message ++ (filling ++ right)))
    opened_is =
        let back = ap (λ k. drop (64 + k) bytes) size ∙ lies.back_is in
        (λ i. lies.front_is i
        ++ (ctr made.forward made.key (lies.nonce_is i) (text_ok i) ++ back i))
        ∙ (append_assoc nonce head _
        ∙ ap (λ m. nonce ++ (head ++ (m ++ (filling ++ right))))
        (ctr_twice made.forward made.key nonce message))

    pub opened_lies : Lies message (opened made.forward made.key bytes)
    opened_lies = subst (Lies message) (sym opened_is) (laid message refl)

-- The bytes of a done slip open to its message.
use Rattle.std.proofs.Common.{◌≡◌, ℕ, ◌<◌, ◌≤◌, List, ◌++◌, length, take, drop, Some, Ok, Err}
use Rattle.std.proofs.Common.{Result, sym, refl, ap, ◌∙◌, subst, arith, lit≤}
use Rattle.std.proofs.lemmas.List.{take_at, drop_at, length-append, append_cancel_left}
use Rattle.faults.specs.Tables.{Not}
use Rattle.faults.specs.declared.BoxFault.{BoxFault}
use Rattle.faults.proofs.Tables.{done_when}
use Rattle.faults.proofs.Results.{never_both}
use Rattle.octets.specs.Octets.{Octets, big_endian}
use Rattle.octets.proofs.Numbers.{append-bytes, big_endian_bytes, length-big_endian}
use Rattle.cipher.specs.Meaning.{Bytes, Takes}
use Rattle.cipher.proofs.Back.{turned_back}
use Rattle.modes.specs.Bytes.{padded}
use Rattle.modes.specs.Short.{short, filled}
use Rattle.modes.proofs.Texts.{length-padded, padded-bytes}
use Rattle.modes.proofs.Shortly.{padded_once}
use Rattle.records.specs.Sheets.{nonce_of, slip}
use Rattle.box_model.specs.States.{Made, Fair, State}
use Rattle.box_model.specs.Calls.{Done, Message, TooLong, InSlip, slip_table, Slips}
use Rattle.box_model.specs.Logs.{Line, Handed, Does, slips, unslip}

-- a line of some log
abbrev pub Stood : Made → Line → Type 0
Stood made l = (t : State) × (u : State) × Handed l × Does made t l u

-- a slip holds one message at most
pub one_in_slip : (made : Made) (bytes m message : List ℕ)
    → InSlip made bytes m → InSlip made bytes message → m ≡ message
one_in_slip made bytes m message a b =
    padded_once m message (append_cancel_left (take 16 bytes) _ _ (sym a.1 ∙ b.1))

module _ (made : Made) (fair : Fair made) where
  nonce_fits : (n : ℕ) → Bytes 16 (nonce_of made.sign n)
  nonce_fits n =
      let number : List ℕ = big_endian 8 n in (
        length-append made.sign number ∙ omega (arith, fair.sign_fits.0, length-big_endian 8 n),
        append-bytes made.sign number fair.sign_fits.1 (big_endian_bytes 8 n),
      )

  -- what Short takes of a slip
  slip-taken : (n : ℕ) (message : List ℕ) → length message ≤ 15 → Octets message
      → Takes made.key 6 10 (nonce_of made.sign n ++ padded 16 message)
  slip-taken n message small bytes = record {
    key_whole = fair.key_fits;
    separator = lit≤ tt;
    enough = lit≤ tt;
    not_too_many = lit≤ tt;
    block_whole = (
      length-append (nonce_of made.sign n) (padded 16 message)
          ∙ omega (arith, (nonce_fits n).0, length-padded 16 message (omega arith)),
      append-bytes (nonce_of made.sign n) (padded 16 message) (nonce_fits n).1
          (padded-bytes 16 message bytes),
    );
  }

  -- what a done slip was handed, and left
  pub slip_made : (t u : State) (n : ℕ) (handed : Message) (buffer bytes : List ℕ)
      → Slips made t n handed buffer (Ok tt) bytes u
      → (message : List ℕ) × (handed ≡ Some message) × (length message ≤ 15)
      × (bytes ≡ slip made.forward made.key made.sign n message)
  slip_made t u n handed buffer bytes does =
      let done = done_when (λ f. (◌≡◌ {A = Done} (Ok tt) (Err f)) × (u ≡ t) × (bytes ≡ buffer)) _
      (slip_table made t n handed buffer) (λ f r. never_both tt f r.0) does in
      let fits : Not (15 < length done.1.0) = subst (λ h. Not (TooLong h)) done.1.1 done.0.1.0 in
      (done.1.0, done.1.1, omega (arith, fits), done.1.3)

  -- it holds its message
  pub slip_holds : (n : ℕ) (message bytes : List ℕ) → length message ≤ 15 → Octets message
      → bytes ≡ slip made.forward made.key made.sign n message
      → (length bytes ≡ 48) × InSlip made bytes message
  unfolding short
  slip_holds n message bytes small octets is = (whole, from)
    where
      nonce : List ℕ
      nonce = nonce_of made.sign n

      taken : Takes made.key 6 10 (nonce ++ padded 16 message)
      taken = slip-taken n message small octets

      block : List ℕ
      block = made.forward made.key 6 10 (nonce ++ padded 16 message)

      front : take 16 bytes ≡ nonce
      front = ap (take 16) is ∙ take_at nonce block 16 (nonce_fits n).0

      back : drop 16 bytes ≡ block
      back = ap (drop 16) is ∙ drop_at nonce block 16 (nonce_fits n).0

      whole : length bytes ≡ 48
      whole =
          ap length is ∙ length-append nonce block
          ∙ omega (arith, (nonce_fits n).0, (fair.gives_blocks made.key 6 10 _ taken).0)

      from : InSlip made bytes message
      from = (
        small,
        ap (made.back made.key 6 10) back
            ∙ sym (turned_back made.forward made.back fair.two_way made.key 6 10
            (nonce ++ padded 16 message) block taken
            (fair.gives_blocks made.key 6 10 _ taken) refl)
            ∙ ap (λ xs. xs ++ padded 16 message) (sym front),
      )

  pub slip-opens : (n : ℕ) (message buffer bytes room room' : List ℕ) (answer : Result ℕ BoxFault)
      → Stood made (slips n (Some message) buffer (Ok tt) bytes)
      → Stood made (unslip bytes room answer room')
      → length room ≡ 15 → (answer ≡ Ok (length message)) × (room' ≡ filled message)
  slip-opens n message buffer bytes room room' answer a b fits =
      let m = slip_made a.0 a.1 n (Some message) buffer bytes a.3 in
      let same : message ≡ m.0 = cc (m.1) in
      let from = slip_holds n message bytes (omega (arith, m.2, ap length same)) a.2
      (m.3 ∙ ap (slip made.forward made.key made.sign n) (sym same)) in
      let opened = (b.3.1.1 (λ no'. no' (from.0, fits))).1 (λ no'. no' (message, from.1)) in
      let only : opened.0 ≡ message = one_in_slip made bytes opened.0 message opened.1 from.1 in
      (opened.2 ∙ ap (λ m. Ok (length m)) only, opened.3 ∙ ap filled only)

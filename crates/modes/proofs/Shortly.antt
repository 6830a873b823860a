-- An opening of Short is done exactly when a sealing of Short gives that block.
use Rattle.std.proofs.Common.{◌≡◌, ℕ, ◌+◌, ◌-◌, ◌<◌, ◌≤◌, List, ◌++◌, length, get_or, take, drop, Ok, Err, Result, sym, refl, ap, ◌∙◌, inl, inr, arith, lit≤}
use Rattle.std.proofs.lemmas.Bool.{cases_lt}
use Rattle.std.proofs.lemmas.List.{length-append, take_at, drop_at, get_or-append_right, get_or_past}
use Rattle.faults.specs.Causes.{from_mode, left}
use Rattle.faults.specs.Tables.{Clear}
use Rattle.faults.specs.declared.ModeFault.{ModeFault}
use Rattle.faults.proofs.Results.{never_both}
use Rattle.faults.proofs.Tables.{done_from_clear, done_when, stable_eq}
use Rattle.cipher.specs.Meaning.{BlockFunction, Takes, TwoWay}
use Rattle.cipher.proofs.Back.{turned_back}
use Rattle.modes.specs.Bytes.{padded}
use Rattle.modes.specs.Short.{short, short_open_table, BlockHolds, filled, ShortOpens, ShortSealsTo, ShortOpensExactly}
use Rattle.modes.proofs.Texts.{length-padded, padded_front, padded-here, padded_after, padded-bytes}
use Rattle.octets.specs.Octets.{Octets}
use Rattle.octets.proofs.Numbers.{append-bytes}

-- a padded message is that of one message only
not_longer : (m n : List ℕ) → padded 16 m ≡ padded 16 n → length m < length n → ⊥
not_longer m n e h = omega (arith, sym (padded-here 16 n) ∙ ap (λ t. get_or t (length n) 0) (sym e) ∙ padded_after 16 m (length n) h)

pub padded_once : (m n : List ℕ) → padded 16 m ≡ padded 16 n → m ≡ n
unfolding padded
padded_once m n e =
    let l : length m ≡ length n = elim (cases_lt (length m) (length n)) [
      | inl h ↦ absurd (not_longer m n e h)
      | inr h ↦ elim (cases_lt (length n) (length m)) [ inl k ↦ absurd (not_longer n m (sym e) k) | inr k ↦ omega arith ]
    ] in
    sym (take_at m _ (length m) refl) ∙ ap (take (length m)) e ∙ ap (λ k. take k (padded 16 n)) l ∙ take_at n _ (length n) refl

module _ (f g : BlockFunction) (two_way : TwoWay f g) (key nonce block : List ℕ) (kb : Octets key) (nb : Octets nonce) (bb : Octets block) where
  same_message : length nonce ≡ 16 → (m n : List ℕ) → BlockHolds g key nonce block m → BlockHolds g key nonce block n → m ≡ n
  same_message l m n v w = padded_once m n (sym (drop_at nonce (padded 16 m) 16 l) ∙ ap (drop 16) (sym v.1 ∙ w.1) ∙ drop_at nonce (padded 16 n) 16 l)

  module _ (m : List ℕ) (w : ShortSealsTo f key nonce m block) where
    nonce_long : length nonce ≡ 16
    nonce_long = stable_eq (length nonce) 16 (λ n. w.taken.0 (λ p. n p.1))

    few : length m ≤ 15
    few = omega (arith, w.taken.1.0)

    takes : Takes key 6 10 (nonce ++ padded 16 m)
    takes = record {
      key_whole = (stable_eq (length key) 32 (λ n. w.taken.0 (λ p. n p.0)), kb);
      separator = lit≤ tt;
      enough = lit≤ tt;
      not_too_many = lit≤ tt;
      block_whole = (simp length-append (omega (arith, nonce_long, length-padded 16 m (omega (arith, few)))), append-bytes nonce (padded 16 m) nb (padded-bytes 16 m w.bytes));
    }

    -- what sealing gives, turned back
    turned : BlockHolds g key nonce block m
    unfolding short
    turned =
        let whole : length block ≡ 32 = stable_eq (length block) 32 (λ n. w.taken.0 (λ p. n p.2)) in
        (few, sym (turned_back f g two_way key 6 10 (nonce ++ padded 16 m) block takes (whole, bb) (sym w.block_is)))

  module _ (out : List ℕ) (answer : Result ℕ ModeFault) (out' : List ℕ) (opens : ShortOpens g key nonce block out answer out') where
    refused : ModeFault → Type 0
    refused fault = (answer ≡ Err fault) × (out' ≡ left (from_mode fault) out)

    done : Type 0
    done = (message : List ℕ) × BlockHolds g key nonce block message × (answer ≡ Ok (length message)) × (out' ≡ filled message)

    sound : (n : ℕ) → answer ≡ Ok n → (message : List ℕ) × ShortSealsTo f key nonce message block × (length message ≡ n) × (out' ≡ filled message)
    unfolding refused done short
    sound n h =
        let w = done_when refused done (short_open_table g key nonce block out) (λ c r. never_both n c (sym h ∙ r.0)) opens in
        let lengths = w.0.0 in
        let m : List ℕ = w.1.0 in
        let holds : BlockHolds g key nonce block m = w.1.1 in
        let kl : length key ≡ 32 = stable_eq (length key) 32 (λ n. lengths (λ p. n p.0)) in
        let nl : length nonce ≡ 16 = stable_eq (length nonce) 16 (λ n. lengths (λ p. n p.1)) in
        let bl : length block ≡ 32 = stable_eq (length block) 32 (λ n. lengths (λ p. n p.2)) in
        let takes : Takes key 6 10 block = record { key_whole = (kl, kb); separator = lit≤ tt; enough = lit≤ tt; not_too_many = lit≤ tt; block_whole = (bl, bb) } in
        let small : Octets m = λ i. elim (cases_lt i (length m)) [
          | inl a ↦
              let e : get_or m i 0 ≡ get_or (g key 6 10 block) (16 + i) 0 =
              sym (padded_front 16 m i a) ∙ (let d : i ≡ 16 + i - 16 = omega arith in ap (λ k. get_or (padded 16 m) k 0) d)
              ∙ sym (get_or-append_right nonce (padded 16 m) 16 (16 + i) 0 nl (omega arith)) ∙ ap (λ t. get_or t (16 + i) 0) (sym holds.1) in
              omega (arith, e, (two_way key 6 10 block takes).whole.1 (16 + i))
          | inr a ↦ omega (arith, get_or_past m i 0 a)
        ] in
        let same : length m ≡ n = (let e : ◌≡◌ {A = Result ℕ ModeFault} (Ok (length m)) (Ok n) = sym w.1.2 ∙ h in (let q : length m ≡ n = cc in q)) in (
          m,
          record {
            bytes = small;
            taken = (λ k. k (kl, nl, bl), (λ k. omega (arith, k, holds.0), tt));
            block_is = sym (two_way key 6 10 block takes).goes_there ∙ ap (f key 6 10) holds.1;
          },
          same,
          w.1.3,
        )

    complete : (m : List ℕ) → ShortSealsTo f key nonce m block → length out ≡ 15 → (answer ≡ Ok (length m)) × (out' ≡ filled m)
    unfolding refused done
    complete m w fits =
        let clear : Clear (short_open_table g key nonce block out) = (λ k. w.taken.0 (λ p. k (p.0, p.1, p.2, fits)), (λ k. k (m, turned m w), tt)) in
        let d = done_from_clear refused done (short_open_table g key nonce block out) clear opens in
        let e : d.0 ≡ m = same_message (nonce_long m w) d.0 m d.1 (turned m w) in
        (d.2 ∙ ap (λ t. Ok (length t)) e, d.3 ∙ ap filled e)

    pub short_exactly : ShortOpensExactly f key nonce block out answer out'
    short_exactly = record {
      sound = sound;
      complete = complete;
      only = λ m n v w. same_message (nonce_long m v) m n (turned m v) (turned n w);
    }

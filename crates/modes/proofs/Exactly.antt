-- An opening is done exactly when a sealing gives those bytes.
use Rattle.std.proofs.Common.{◌≡◌, ℕ, ◌<◌, List, length, Ok, Err, Result, sym, ap, ◌∙◌, inl, inr, arith}
use Rattle.std.specs.Str.{bytes_eq}
use Rattle.std.proofs.lemmas.Slice.Eq.{bytes_eq-Decides}
use Rattle.std.proofs.lemmas.Bool.{cases_Bool, true≢false}
use Rattle.faults.specs.Causes.{from_mode, left}
use Rattle.faults.specs.Tables.{Not, Clear}
use Rattle.faults.specs.declared.ModeFault.{ModeFault}
use Rattle.faults.proofs.Results.{never_both}
use Rattle.faults.proofs.Tables.{done_from_clear, done_when}
use Rattle.octets.specs.Lists.{at}
use Rattle.cipher.specs.Meaning.{BlockFunction}
use Rattle.modes.specs.Cascade.{cascade_open_table, CascadeOpens, ctr, tag}
use Rattle.modes.specs.Exact.{CascadeSealsTo, CascadeOpensExactly}
use Rattle.modes.proofs.Streams.{length-ctr, ctr_twice}

-- texts that are not different are the same
pub stable_same : (a b : List ℕ) → Not (Not (a ≡ b)) → a ≡ b
stable_same a b n =
    elim (cases_Bool (bytes_eq a b)) [
      | inl e ↦ (bytes_eq-Decides a b).0 e
      | inr e ↦ absurd (n (λ q. true≢false (sym ((bytes_eq-Decides a b).1 q) ∙ e)))
    ]

module _ (f : BlockFunction) (key nonce associated text given : List ℕ) where
  only_one : (m : List ℕ) → CascadeSealsTo f key nonce associated m text given → ctr f key nonce text ≡ m
  only_one m w = ap (ctr f key nonce) w.text_is ∙ ctr_twice f key nonce m

  module _ (out : List ℕ) (answer : Result (Unit {0}) ModeFault) (out' : List ℕ) (small : (i : ℕ) → at out' i < 256)
      (opens : CascadeOpens f key nonce associated text given out answer out') where
    refused : ModeFault → Type 0
    refused fault = (answer ≡ Err fault) × (out' ≡ left (from_mode fault) out)

    done : Type 0
    done = (answer ≡ Ok tt) × (out' ≡ ctr f key nonce text)

    sound : answer ≡ Ok tt → CascadeSealsTo f key nonce associated out' text given
    unfolding refused done
    sound h =
        let w = done_when refused done (cascade_open_table f key nonce associated text given out) (λ c r. never_both tt c (sym h ∙ r.0)) opens in
        let e : out' ≡ ctr f key nonce text = w.1.1 in
        let l : length out' ≡ length text = ap length e ∙ length-ctr f key nonce text in
        record {
          bytes = small;
          taken = (λ n. w.0.0 (λ p. n (p.0, sym l, p.2)), (λ n. w.0.1.0 (λ p. n (p.0, p.1, omega (arith, l, p.2))), tt));
          text_is = sym (ap (ctr f key nonce) e ∙ ctr_twice f key nonce text);
          tag_is = stable_same given (tag f key nonce associated text) w.0.1.1.0;
        }

    complete : (m : List ℕ) → CascadeSealsTo f key nonce associated m text given → length out ≡ length text → (answer ≡ Ok tt) × (out' ≡ m)
    unfolding refused done
    complete m w fits =
        let l : length text ≡ length m = ap length w.text_is ∙ length-ctr f key nonce m in
        let clear : Clear (cascade_open_table f key nonce associated text given out) = (
          λ n. w.taken.0 (λ p. n (p.0, fits, p.2)),
          (λ n. w.taken.1.0 (λ p. n (p.0, p.1, omega (arith, l, p.2))), (λ n. n w.tag_is, tt)),
        ) in
        let d = done_from_clear refused done (cascade_open_table f key nonce associated text given out) clear opens in
        (d.0, d.1 ∙ only_one m w)

    pub exactly : CascadeOpensExactly f key nonce associated text given out answer out'
    exactly = record {
      sound = sound;
      complete = complete;
      only = λ m n v w. sym (only_one m v) ∙ only_one n w;
    }

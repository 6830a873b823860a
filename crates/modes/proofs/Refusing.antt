-- What the lengths of what a sealing or an opening is handed decide, and its tag, or its padding.
use Rattle.std.proofs.Common.{◌≡◌, ℕ, ◌≤◌, List, ◌++◌, length, Ok, Err, Result, sym, refl, ap, ◌∙◌}
use Rattle.faults.specs.Causes.{mode_fault}
use Rattle.faults.specs.Tables.{By}
use Rattle.faults.specs.declared.ModeCause.TheVariants.{Padding}
use Rattle.faults.specs.declared.ModeFault.{ModeFault}
use Rattle.octets.specs.Octets.{zeros}
use Rattle.cipher.specs.Meaning.{BlockFunction}
use Rattle.modes.specs.Bytes.{padded}
use Rattle.modes.specs.Cascade.{cascade_table, CascadeOpens, ctr, tag}
use Rattle.modes.specs.Short.{ShortOpens, filled}

module _ (f : BlockFunction) (key nonce associated text out given : List ℕ) where
  module _ (fault : ModeFault) (answer : Result (Unit {0}) ModeFault) (e : answer ≡ Err fault)
      (b : By (cascade_table (length key) (length nonce) (length associated) (length text) (length out) (length given)) (λ row. fault ≡ row) ⊥) where
    pub open_refused : CascadeOpens f key nonce associated text given out answer out
    open_refused = (λ h. (e ∙ ap Err (b.0 h), refl), λ n. (λ h. (e ∙ ap Err ((b.1 n).0 h), refl), λ m. absurd ((b.1 n).1 m)))

  -- all lengths are right
  module _ (whole : (length key ≡ 32) × (length out ≡ length text) × (length given ≡ 32)) (few : (length nonce ≤ 20) × (length associated ≤ 65536) × (length text ≤ 65536)) where
    pub right_tag : (out' : List ℕ) → given ≡ tag f key nonce associated text → out' ≡ ctr f key nonce text → CascadeOpens f key nonce associated text given out (Ok tt) out'
    right_tag out' right a =
        (λ h. absurd (h whole), λ n. (λ h. absurd (h few), λ m. (λ h. absurd (h right), λ k. (refl, a))))

module _ (back : BlockFunction) (key nonce block out : List ℕ) (whole : (length key ≡ 32) × (length nonce ≡ 16) × (length block ≡ 32) × (length out ≡ 15)) where
  pub no_message : (fault : ModeFault) (out' : List ℕ) → fault ≡ mode_fault Padding → out' ≡ zeros (length out)
      → ((m : List ℕ) → length m ≤ 15 → back key 6 10 block ≡ nonce ++ padded 16 m → ⊥) → ShortOpens back key nonce block out (Err fault) out'
  no_message fault out' e z none = (λ h. absurd (h whole), λ n. (λ h. (ap Err e, z), λ k. absurd (k (λ w. none w.0 w.1.0 w.1.1))))

  pub a_message : (m out' : List ℕ) (n : ℕ) → length m ≡ n → n ≤ 15 → back key 6 10 block ≡ nonce ++ padded 16 m → out' ≡ filled m → ShortOpens back key nonce block out (Ok n) out'
  a_message m out' n l few e o =
      let h : length m ≤ 15 = rw l few in
      (λ k. absurd (k whole), λ k. (λ r. absurd (r (m, (h, e))), λ r. (m, (h, e), ap Ok (sym l), o)))

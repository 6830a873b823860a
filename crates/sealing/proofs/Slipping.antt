-- A slip that is sealed or opened, by what Short answered.
use Rattle.std.proofs.Common.{◌≡◌, ℕ, ◌+◌, ◌<◌, List, ◌++◌, length, take, drop, Ok, Err, Result, sym, refl, ap, ◌∙◌, arith}
use mathlib.Core.Path.{transport}
use borrow.Rule.Slice.PartMut.{mid_of, put_mid, post_of, Post-is}
use Rattle.std.proofs.lemmas.List.{length-take, length-drop, take-append-drop, drop_at, drop_all, append-nil}
use Rattle.faults.specs.Causes.{mode_fault}
use Rattle.faults.specs.Tables.{Not}
use Rattle.faults.specs.declared.ModeCause.TheVariants.{Limit}
use Rattle.faults.specs.declared.ModeFault.{ModeFault}
use Rattle.faults.proofs.Results.{never_both}
use Rattle.octets.specs.Octets.{zeros}
use Rattle.octets.proofs.Writes.{put_is}
use Rattle.cipher.specs.Meaning.{BlockFunction}
use Rattle.modes.specs.Short.{short, ShortSeals, ShortOpens}
use Rattle.records.specs.Records.{slip_nonce, slip_block}
use Rattle.sealing.specs.Slips.{SealsSlip, OpensSlip}

-- the block's part of a slip, left as it was
same_block : (bytes block : List ℕ) → block ≡ mid_of 16 32 bytes → put_mid 16 32 bytes block ≡ bytes
same_block bytes block e =
    ap (λ b. take 16 bytes ++ (b ++ post_of 16 32 bytes)) e
    ∙ ap (λ r. take 16 bytes ++ r) (take-append-drop 32 (drop 16 bytes)) ∙ take-append-drop 16 bytes

-- a nonce and a block, written into a slip
laid : (bytes nonce block : List ℕ) → length bytes ≡ 48 → length block ≡ 32 → nonce ++ post_of 0 16 (put_mid 16 32 bytes block) ≡ nonce ++ block
laid bytes nonce block l48 l32 =
    let rest : List ℕ = drop (16 + length block) bytes in
    ap (λ r. nonce ++ r)
    (ap (λ r. post_of 0 16 r) (put_is 16 32 bytes block block refl l32)
    ∙ Post-is 0 16 (take 16 bytes ++ (block ++ rest)) (omega arith)
    ∙ drop_at (take 16 bytes) (block ++ rest) 16 (simp length-take (omega arith))
    ∙ ap (λ r. block ++ r) (drop_all (16 + length block) bytes (omega arith)) ∙ append-nil block)

module _ (f : BlockFunction) (key nonce message bytes block' : List ℕ) (answer : Result (Unit {0}) ModeFault) (kl : length key ≡ 32) (nl : length nonce ≡ 16) (bl : length bytes ≡ 48)
    (seals : ShortSeals f key nonce message (mid_of 16 32 bytes) answer block') where
  sealed : (15 < length message → (answer ≡ Err (mode_fault Limit)) × (block' ≡ mid_of 16 32 bytes))
      × (Not (15 < length message) → (answer ≡ Ok tt) × (block' ≡ short f key nonce message))
  sealed = seals.1 (λ k. k (kl, nl, simp (length-take, length-drop) (omega arith)))

  pub slip_refused : (fault : ModeFault) (result : Result (Unit {0}) ModeFault) → answer ≡ Err fault → result ≡ Err fault → SealsSlip f key nonce message bytes result (put_mid 16 32 bytes block')
  slip_refused fault result a r =
      (λ h. (r ∙ sym a ∙ (sealed.0 h).0, same_block bytes block' (sealed.0 h).1), λ h. absurd (never_both tt fault (sym (sealed.1 h).0 ∙ a)))

  pub slip_made : answer ≡ Ok tt → length block' ≡ 32 → SealsSlip f key nonce message bytes (Ok tt) (nonce ++ post_of 0 16 (put_mid 16 32 bytes block'))
  slip_made a l =
      (λ h. absurd (never_both tt _ (sym a ∙ (sealed.0 h).0)), λ h. (refl, laid bytes nonce block' bl l ∙ ap (λ b. nonce ++ b) (sealed.1 h).1))

module _ (back : BlockFunction) (key bytes nonce block out out' : List ℕ) (answer : Result ℕ ModeFault) (kl : length key ≡ 32) (bl : length bytes ≡ 48) (ol : length out ≡ 15)
    (n : nonce ≡ slip_nonce bytes) (b : block ≡ slip_block bytes) (opens : ShortOpens back key nonce block out answer out') where
  same : ShortOpens back key (slip_nonce bytes) (slip_block bytes) out answer out'
  same = transport (λ i. ShortOpens back key (n i) (b i) out answer out') opens

  pub slip_opened : OpensSlip back key bytes answer out'
  slip_opened =
      let opened = same.1 (λ k. k (kl, simp length-take (omega arith), simp length-drop (omega arith), ol)) in
      (λ h. ((opened.0 h).0, (opened.0 h).1 ∙ ap zeros ol), opened.1)

-- A file holds a message exactly where its parts open.
use Rattle.std.proofs.Common.{◌≡◌, ℕ, zero, suc, ◌+◌, ◌<◌, ◌≤◌, List, ◌++◌, length, take, drop, Ok, Err, Result, sym, refl, ap, ◌∙◌, subst, ap₂, arith, lit<, lit≤}
use Rattle.std.proofs.lemmas.List.{length-take, length-drop, take_at, drop_at, drop-drop}
use Rattle.faults.specs.Causes.{mode_fault}
use Rattle.faults.specs.declared.ModeCause.TheVariants.{Tag}
use Rattle.faults.specs.declared.ModeFault.{ModeFault}
use Rattle.octets.specs.Lists.{at}
use Rattle.cipher.specs.Meaning.{Bytes, BlockFunction, GivesBlocks}
use Rattle.octets.specs.Octets.{Octets, zeros}
use Rattle.octets.proofs.Numbers.{take-bytes}
use Rattle.modes.specs.Cascade.{ctr, tag, CascadeOpens}
use Rattle.modes.proofs.Streams.{ctr_twice}
use Rattle.modes.proofs.Blocks.{drop-bytes, tag-bytes, ctr-bytes}
use Rattle.modes.proofs.Exactly.{stable_same}
use Rattle.locked.specs.Locked.{magic, locked, FileHolds, FileHoldsOnly, Unlocks}
use Rattle.locked.proofs.Parts.{in_parts, part-magic, part-nonce, part_rest}

magic-bytes : Octets magic
magic-bytes zero = lit< tt
magic-bytes (suc zero) = lit< tt
magic-bytes (suc (suc zero)) = lit< tt
magic-bytes (suc (suc (suc zero))) = lit< tt
magic-bytes (suc (suc (suc (suc i)))) = lit< tt

module _ (f : BlockFunction) (key file : List ℕ) where
  abbrev pub nonce_of : List ℕ
  nonce_of = take 20 (drop 4 file)

  abbrev pub tag_of : List ℕ
  tag_of = take 32 (drop 24 file)

  abbrev pub text_of : List ℕ
  text_of = drop 56 file

  -- parts that open
  pub holds : (n : ℕ) (out : List ℕ) → length file ≡ 56 + n → ((i : ℕ) → at out i < 256) → take 4 file ≡ magic → tag_of ≡ tag f key nonce_of magic text_of → out ≡ ctr f key nonce_of text_of → FileHolds f key file out
  unfolding locked
  holds n out l small m s e = record {
    nonce = nonce_of;
    nonce_long = simp (length-take, length-drop) (omega arith);
    bytes = small;
    file_is =
        let back : text_of ≡ ctr f key nonce_of out = sym (ap (ctr f key nonce_of) e ∙ ctr_twice f key nonce_of text_of) in
        in_parts file ∙ ap₂ (λ a b. a ++ (nonce_of ++ (b ++ text_of))) m s ∙ ap (λ t. magic ++ (nonce_of ++ (tag f key nonce_of magic t ++ t))) back;
  }

  -- and what opens where a message is held
  module _ (gives : GivesBlocks f) (kb : Bytes 32 key) (fb : Octets file) (message : List ℕ) (h : FileHolds f key file message) where
    text : List ℕ
    text = ctr f key h.nonce message

    right : List ℕ
    right = tag f key h.nonce magic text

    laid : file ≡ magic ++ (h.nonce ++ (right ++ text))
    unfolding locked right text
    laid = h.file_is

    pub held-magic : take 4 file ≡ magic
    held-magic = ap (take 4) laid ∙ part-magic magic h.nonce (right ++ text) refl h.nonce_long

    held-nonce : nonce_of ≡ h.nonce
    held-nonce = ap (λ t. take 20 (drop 4 t)) laid ∙ part-nonce magic h.nonce (right ++ text) refl h.nonce_long

    held_rest : drop 24 file ≡ right ++ text
    held_rest = ap (drop 24) laid ∙ part_rest magic h.nonce (right ++ text) refl h.nonce_long

    nonce-bytes : Octets h.nonce
    nonce-bytes = subst Octets held-nonce (take-bytes (drop 4 file) 20 (drop-bytes file 4 fb))

    right-long : length right ≡ 32
    unfolding right text
    right-long = (tag-bytes f gives key h.nonce kb (omega (arith, h.nonce_long)) nonce-bytes magic _ magic-bytes (ctr-bytes f gives key h.nonce kb (omega (arith, h.nonce_long)) nonce-bytes message h.bytes)).0

    held-text : text_of ≡ text
    held-text = sym (drop-drop 32 24 file) ∙ ap (drop 32) held_rest ∙ drop_at right text 32 right-long

    pub held-tag : tag_of ≡ tag f key nonce_of magic text_of
    unfolding right
    held-tag = ap (take 32) held_rest ∙ take_at right text 32 right-long ∙ ap₂ (λ n t. tag f key n magic t) (sym held-nonce) (sym held-text)

    pub held-message : message ≡ ctr f key nonce_of text_of
    unfolding text
    held-message = sym (ctr_twice f key h.nonce message) ∙ ap₂ (ctr f key) (sym held-nonce) (sym held-text)

-- an unlocking of a file of the right length, with the magic word, by what the opening of its parts answered
module _ (f : BlockFunction) (gives : GivesBlocks f) (key file out : List ℕ) (kb : Octets key) (fb : Octets file) (answer : Result (Unit {0}) ModeFault) (out' : List ℕ) (ob : Octets out')
    (kl : length key ≡ 32) (fl : length file ≡ 56 + length out) (few : length out ≤ 65536) where
  pub other_word : (take 4 file ≡ magic → ⊥) → answer ≡ Err (mode_fault Tag) → out' ≡ zeros (length out) → Unlocks f key file out answer out'
  other_word differs e z = (λ h. absurd (h (kl, fl)), λ n. (λ h. absurd (omega arith), λ m. (λ no. (e, z), λ nn. absurd (nn (λ w. differs (held-magic f key file gives (kl, kb) fb w.0 w.1))))))

  pub this_word : take 4 file ≡ magic → CascadeOpens f key (nonce_of f key file) magic (text_of f key file) (tag_of f key file) out answer out' → Unlocks f key file out answer out'
  this_word word opens =
      let rest = (opens.1 (λ k. k (kl, simp length-drop (omega arith), simp (length-take, length-drop) (omega arith)))).1 (λ k. k (simp (length-take, length-drop) (omega arith), lit≤ tt, simp length-drop (omega arith))) in
      let held : tag_of f key file ≡ tag f key (nonce_of f key file) magic (text_of f key file) → (answer ≡ Ok tt) × FileHoldsOnly f key file out' =
      λ e. let d = rest.1 (λ k. k e) in (d.0, (holds f key file (length out) out' fl ob word e d.1, λ other h. held-message f key file gives (kl, kb) fb other h ∙ sym d.1)) in (
        λ h. absurd (h (kl, fl)),
        λ n. (
          λ h. absurd (omega arith),
          λ m. (
            λ no. rest.0 (λ e. no (out', (held e).1.0)),
            λ nn. held (stable_same _ _ (λ q. nn (λ w. q (held-tag f key file gives (kl, kb) fb w.0 w.1)))),
          ),
        ),
      )

-- A text that is handed to a chain: its full blocks one by one, and its tail.
use Rattle.std.proofs.Common.{◌≡◌, ℕ, ◌+◌, ◌*◌, ◌/◌, ◌<◌, ◌≤◌, List, [], length, drop, get_or, Result, ap, ◌∙◌, refl, arith}
use Rattle.std.specs.Simd.{first_chunks}
use Rattle.std.proofs.lemmas.List.{length-take, length-drop}
use Rattle.faults.specs.declared.ModeFault.{ModeFault}
use Rattle.cipher.specs.Meaning.{BlockFunction}
use Rattle.modes.specs.Bytes.{padded, full_blocks, block_at, tail_of}
use Rattle.modes.specs.Chains.{links, TakesBlock, TakesTail}
use Rattle.modes.proofs.Linking.{links_step, block_of}

-- a full block has 32 bytes
block_long : (bs : List ℕ) (i : ℕ) → i < full_blocks bs → length (block_at bs i) ≡ 32
unfolding block_at
block_long bs i h = simp (length-take, length-drop) (omega arith)

module _ (bs : List ℕ) where
  -- a chain that was handed block i of a text
  pub handed_block : (f : BlockFunction) (D R : ℕ) (t : List ℕ) (g : BlockFunction) (v : List ℕ) (blocks : List (List ℕ)) (i : ℕ) (answer : Result (Unit {0}) ModeFault) (after : List ℕ)
      → blocks ≡ first_chunks 32 (length bs / 32) bs → i < length bs / 32 → g ≡ f → v ≡ links f D R t bs i
      → TakesBlock g D R (get_or blocks i []) v answer after → after ≡ links f D R t bs (i + 1)
  handed_block f D R t g v blocks i answer after e h same value taken =
      let b : get_or blocks i [] ≡ block_at bs i = ap (λ t. get_or t i []) e ∙ block_of (length bs / 32) bs i [] h in
      let long : length (get_or blocks i []) ≡ 32 = ap length b ∙ block_long bs i h in
      (taken.1 (λ n. n long)).1 ∙ links_step f D R t bs g D R v (get_or blocks i []) i same refl refl value b

  -- and one that was told the tail of it
  pub handed_tail : (tail before : List ℕ) (answer : Result (Unit {0}) ModeFault) (after : List ℕ)
      → tail ≡ drop (length bs / 32 * 32) bs → TakesTail tail before answer after → after ≡ padded 32 (tail_of bs)
  unfolding tail_of
  handed_tail tail before answer after e told =
      let turned : length bs / 32 * 32 ≡ 32 * full_blocks bs = omega arith in
      let short : length tail ≤ 31 = omega (arith, ap length e, length-drop (length bs / 32 * 32) bs) in
      (told.1 (λ n. omega arith)).1 ∙ ap (padded 32) (e ∙ ap (λ n. drop n bs) turned)

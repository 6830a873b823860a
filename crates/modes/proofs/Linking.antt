-- A chain over the full blocks of a text, one block more.
use Rattle.std.proofs.Common.{◌≡◌, ℕ, zero, suc, ◌+◌, ◌*◌, ◌<◌, List, get_or, take, drop, refl, ap, ◌∙◌, add-one, arith}
use Rattle.std.specs.Simd.{first_chunks}
use Rattle.std.proofs.lemmas.List.{drop-drop}
use Rattle.cipher.specs.Meaning.{BlockFunction}
use Rattle.modes.specs.Bytes.{block_at}
use Rattle.modes.specs.Chains.{link, links}

module _ (f : BlockFunction) (D R : ℕ) (t bs : List ℕ) where
  pub links_none : t ≡ links f D R t bs 0
  unfolding links
  links_none = refl

  pub links_more : (n : ℕ) → links f D R t bs (n + 1) ≡ link f D R (links f D R t bs n) (block_at bs n)
  unfolding links
  links_more n = rw add-one

  pub links_step : (g : BlockFunction) (d r : ℕ) (v a : List ℕ) (n : ℕ) → g ≡ f → d ≡ D → r ≡ R → v ≡ links f D R t bs n → a ≡ block_at bs n → link g d r v a ≡ links f D R t bs (n + 1)
  links_step g d r v a n p q s u w = let e = links_more n in cc

-- block i of a text that is taken in blocks
pub block_of : (count : ℕ) (bs : List ℕ) (i : ℕ) (d : List ℕ) → i < count → get_or (first_chunks 32 count bs) i d ≡ block_at bs i
unfolding block_at
block_of zero bs i d h = absurd (omega arith)
block_of (suc count) bs zero d h = refl
block_of (suc count) bs (suc i) d h =
    block_of count (drop 32 bs) i d (omega arith) ∙ ap (take 32) (drop-drop (32 * i) 32 bs ∙ ap (λ n. drop n bs) (omega arith))

use Rattle.std.proofs.Common.{◌≡◌, ℕ, ◌+◌, ◌*◌, ◌∙◌, ap₂, arith}
use Rattle.octets.specs.Lists.{at}
use Rattle.saturnin.specs.Cube.{word, register}
use Rattle.saturnin_words.proofs.bytes.word_at.Goals as goal

-- the bytes of register j + 8, by their places
upper : (f : ℕ → ℕ) (j : ℕ) → f (2 * j + 16) + 256 * f (2 * j + 17) ≡ f (2 * (j + 8)) + 256 * f (2 * (j + 8) + 1)
upper f j = ap₂ (λ a b. f a + 256 * f b) (omega arith) (omega arith)

pub returns : goal.returns
unfolding word register
returns c = let u = upper (at c.args.bytes.now) c.args.j in c.from_le_bytes.ensures ∙ omega (arith, u)

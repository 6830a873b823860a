-- What a cipher is, and a two-way cipher.
use Rattle.std.specs.Prelude.{◌≡◌, ℕ, ◌≤◌, List, length}
use Rattle.octets.specs.Octets.{Octets}

-- so many bytes
abbrev pub Bytes : ℕ → List ℕ → Type 0
Bytes n bs = (length bs ≡ n) × Octets bs

-- a function from key, separator, count of super-rounds and block to block
abbrev pub BlockFunction : Type 0
BlockFunction = (key : List ℕ) (D R : ℕ) (block : List ℕ) → List ℕ

-- what a cipher takes: a key of 32 bytes, a separator of 0 to 15, 10 to 31 super-rounds and a block
-- of 32 bytes
pub record Takes (key : List ℕ) (D R : ℕ) (block : List ℕ) : Type 0 where
  pub key_whole : Bytes 32 key
  pub separator : D ≤ 15
  pub enough : 10 ≤ R
  pub not_too_many : R ≤ 31
  pub block_whole : Bytes 32 block

-- for what it takes, a cipher gives a block of 32 bytes
abbrev pub GivesBlocks : BlockFunction → Type 0
GivesBlocks f = (key : List ℕ) (D R : ℕ) (block : List ℕ) → Takes key D R block
    → Bytes 32 (f key D R block)

-- of all blocks of 32 bytes, this is the only one that f takes to the given one
pub record OnlyBlock (f : BlockFunction) (key : List ℕ) (D R : ℕ) (given block : List ℕ)
    : Type 0 where
  pub whole : Bytes 32 block
  pub goes_there : f key D R block ≡ given
  pub only : (other : List ℕ) → Bytes 32 other → f key D R other ≡ given → other ≡ block

-- a two-way cipher: back gives the only block that forward takes to the given one
abbrev pub TwoWay : (forward back : BlockFunction) → Type 0
TwoWay forward back = (key : List ℕ) (D R : ℕ) (given : List ℕ) → Takes key D R given
    → OnlyBlock forward key D R given (back key D R given)

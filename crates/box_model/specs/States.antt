-- What a box is, as far as its calls go.
use Rattle.std.specs.Prelude.{ℕ, List}
use Rattle.cipher.specs.Meaning.{Bytes, BlockFunction, GivesBlocks, TwoWay}
use Rattle.shelf.specs.Meaning.{Meaning}

abbrev pub last_number : ℕ
last_number = 999999999

-- what a box was made with, and keeps
pub record Made : Type 0 where
  pub forward : BlockFunction
  pub back : BlockFunction
  pub key : List ℕ
  pub sign : List ℕ

-- what every making has: a two-way cipher, 32 key bytes and 8 sign bytes
pub record Fair (made : Made) : Type 0 where
  pub gives_blocks : GivesBlocks made.forward
  pub two_way : TwoWay made.forward made.back
  pub key_fits : Bytes 32 made.key
  pub sign_fits : Bytes 8 made.sign

-- what its calls change: the shelf, the next number, and the numbers out, oldest first
pub record State : Type 0 where
  pub shelf : Meaning
  pub next : ℕ
  pub out : List ℕ

-- A two-way cipher turns a block of its own back.
use Rattle.std.proofs.Common.{◌≡◌, ℕ, List}
use Rattle.cipher.specs.Meaning.{Bytes, Takes, BlockFunction, TwoWay}

pub turned_back : (forward back : BlockFunction) → TwoWay forward back
    → (key : List ℕ) (D R : ℕ) (block given : List ℕ) → Takes key D R block → Bytes 32 given
    → forward key D R block ≡ given → block ≡ back key D R given
turned_back forward back two_way key D R block given h whole e =
    let takes : Takes key D R given = record {
      key_whole = h.key_whole;
      separator = h.separator;
      enough = h.enough;
      not_too_many = h.not_too_many;
      block_whole = whole;
    } in
    (two_way key D R given takes).only block h.block_whole e

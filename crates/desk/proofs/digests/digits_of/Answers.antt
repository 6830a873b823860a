use Rattle.std.proofs.Common.{Ok, Err, Result, IfOk, string_bytes, ◌≡◌}
use Rattle.hex.proofs.HexLemmas.{decode_of-encode_lower}
use Rattle.hex.specs.Hex.{encode_lower}
use Rattle.desk.specs.Lines.{DigitsSpell}
use Rattle.desk.proofs.digests.digits_of.Goals as goal

with_fact : {A E : Type 0} (P : A → Type 0) (Q : Type 0) (r : Result A E) → Q → IfOk r P → IfOk r (λ a. P a × Q)
with_fact P Q (Ok a) q h = (h, q)
with_fact P Q (Err e) q h = tt

pub returns : goal.returns
returns c =
    let bytes = c.args.bytes.now in
    let spelt : DigitsSpell bytes = decode_of-encode_lower bytes (λ i. (c.type_inv.bytes i).fits) in
    with_fact (λ text. string_bytes text ≡ encode_lower bytes) (DigitsSpell bytes) c.encode.result spelt c.encode.ensures

use Rattle.octets.proofs.Numbers.{wide_is}
use Rattle.std.proofs.Common.{length, ap, ◌∙◌, arith}
use Rattle.modes.proofs.bytes.big_endian.Goals as goal

pub returns : goal.returns
returns c =
    let k = c.to_be_bytes.ensures in
    c.joined.ensures.fitting (omega (arith, ap length k)) ∙ wide_is c.args.n c.to_be_bytes.result c.ranges.n.fits k

use Rattle.std.proofs.Common.{ap, arith, length-set}
use Rattle.octets.specs.Lists.{at}
use Rattle.saturnin_words.proofs.Loading.{words, word_more, all_stored}
use Rattle.saturnin_words.proofs.form.StateForm.store.Goals as goal

pub loop-j-preserved : goal.loop-j-preserved
loop-j-preserved c =
    let e = c.to_le_bytes.ensures in (
      simp length-set c.loop-j.invariant.0,
      word_more (words c.args.self) c.loop-j.bytes c.loop-j.j (omega arith) c.loop-j.invariant.0 c.loop-j.invariant.1 _ _ _ _
          (ap (λ l. at l 0) e) (ap (λ l. at l 1) e) (ap (λ l. at l 2) e) (ap (λ l. at l 3) e),
    )

pub returns : goal.returns
returns c = all_stored c.args.self c.loop-j.bytes c.loop-j.invariant.0 (λ k h. c.loop-j.invariant.1 k h (omega arith))

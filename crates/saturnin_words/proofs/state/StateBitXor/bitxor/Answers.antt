use Rattle.saturnin_words.proofs.Places.{added}
use Rattle.saturnin_words.proofs.state.StateBitXor.bitxor.Goals as goal

pub returns : goal.returns
returns c = added _ c.args.key c.args.self c.bitxor.ensures c.bitxor-2.ensures

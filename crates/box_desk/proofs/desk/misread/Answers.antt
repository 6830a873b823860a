use Rattle.std.proofs.Common.{refl, arith}
use Rattle.box_desk.proofs.desk.misread.Goals as goal

pub returns-in-Some : goal.returns-in-Some
returns-in-Some c = (λ e. absurd (grind arith), λ none. absurd (none (c.in-Some.ensures.named.0 refl)))

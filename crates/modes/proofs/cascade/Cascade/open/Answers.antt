use Rattle.modes.proofs.Exactly.{exactly}
use Rattle.modes.proofs.cascade.Cascade.open.Goals as goal

pub returns-clause-exactly : goal.returns-clause-exactly
returns-clause-exactly g c = exactly _ _ _ _ _ _ _ _ _ (λ i. (c.type_inv.out i).fits) c.opened.ensures

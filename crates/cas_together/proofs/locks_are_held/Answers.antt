use Rattle.cas_together.proofs.Holding.{held}
use Rattle.cas_together.proofs.locks_are_held.Goals as goal

pub returns : goal.returns
returns g c = λ edge n s rules ls legal runs. held edge n s rules ls legal runs

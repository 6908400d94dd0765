use Rattle.cas_together.proofs.Gathering.{together}
use Rattle.cas_together.proofs.threads_are_kept.Goals as goal

pub returns : goal.returns
returns g c = λ edge n t s kept free ls to r. together edge n t s kept free ls to r

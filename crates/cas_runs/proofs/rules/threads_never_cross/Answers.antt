use Rattle.cas_runs.proofs.Closed.{threads_plain}
use Rattle.cas_runs.proofs.rules.threads_never_cross.Goals as goal

pub returns : goal.returns
returns g c = λ l setting fs entry thread ls bs b x r. threads_plain l setting fs entry thread ls bs b x r

use Rattle.cas_runs.proofs.Closed.{thread_each_kept}
use Rattle.cas_runs.proofs.compose.threads_kept.Goals as goal

pub returns : goal.returns
returns g c = λ l setting fs entry thread s h. thread_each_kept l setting fs entry thread s h

use Rattle.cas_runs.proofs.Itself.{thread_itself}
use Rattle.cas_runs.proofs.compose.threads_refine_themselves.Goals as goal

pub returns : goal.returns
returns g c = λ l prices edge units entry fits. thread_itself l prices edge units entry fits

use Rattle.cas_step.proofs.Soundness.{reachable_threads_step}
use Rattle.cas_step.proofs.laws.reachable_threads_step.Goals as goal

pub returns : goal.returns
returns c = reachable_threads_step

use Rattle.cas_tso.proofs.Keeping.{run_kept, step_kept}
use Rattle.cas_tso.proofs.laws.reached_states_are_kept.Goals as goal

pub returns-clause-step : goal.returns-clause-step
returns-clause-step c = step_kept

pub returns-clause-reached : goal.returns-clause-reached
returns-clause-reached c = λ p s small r. run_kept p r.0 s small r.1

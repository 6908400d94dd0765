use Rattle.cas_runs.proofs.Declared.{results_known}
use Rattle.cas_runs.proofs.rules.programs_know_results.Goals as goal

pub returns : goal.returns
returns g c = λ l edge units entry fits name there. results_known l edge units entry fits name there

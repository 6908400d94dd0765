use Rattle.cas_runs.proofs.Reached.{equal_back}
use Rattle.cas_runs.proofs.walking.equal_machines_run.Goals as goal

pub returns-clause-back : goal.returns-clause-back
returns-clause-back g c = λ edge m n equal. equal_back edge m n equal

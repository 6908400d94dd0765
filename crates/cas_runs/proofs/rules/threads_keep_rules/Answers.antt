use Rattle.cas_runs.proofs.Ruling.{program_rules}
use Rattle.cas_runs.proofs.rules.threads_keep_rules.Goals as goal

pub returns : goal.returns
returns g c = λ l setting prices fs entry thread laid. program_rules l setting prices fs entry thread laid

use Rattle.cas_runs.proofs.Ruling.{unit_rules}
use Rattle.cas_runs.proofs.rules.units_keep_rules.Goals as goal

pub returns : goal.returns
returns g c = λ l setting prices fs laid. unit_rules l setting prices fs laid

use Rattle.cas_runs.proofs.Ruling.{alone_rules}
use Rattle.cas_runs.proofs.rules.functions_keep_rules.Goals as goal

pub returns : goal.returns
returns g c = λ l setting prices f laid. alone_rules l setting prices f laid

use Rattle.cas_runs.proofs.Keeping.{sections_keep}
use Rattle.cas_runs.proofs.rules.sections_keep_rules.Goals as goal

pub returns : goal.returns
returns c = sections_keep

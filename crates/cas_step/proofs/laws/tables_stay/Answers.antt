use Rattle.cas_step.proofs.Tables.{tables_stay}
use Rattle.cas_step.proofs.laws.tables_stay.Goals as goal

pub returns : goal.returns
returns c = tables_stay

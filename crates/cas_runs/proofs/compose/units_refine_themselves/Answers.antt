use Rattle.cas_runs.proofs.Itself.{unit_itself}
use Rattle.cas_runs.proofs.compose.units_refine_themselves.Goals as goal

pub returns : goal.returns
returns g c = λ l prices unit defined. unit_itself l prices unit defined

use Rattle.cas_runs.proofs.Fitting.{unit_fits}
use Rattle.cas_runs.proofs.rules.programs_fit_units.Goals as goal

pub returns : goal.returns
returns g c = λ l setting units entry fits stack code i unit e. unit_fits l setting units entry fits stack code i unit e

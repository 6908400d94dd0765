use Rattle.cas_runs.proofs.Natural.{natural_laid_out}
use Rattle.cas_runs.proofs.rules.natural_layouts_fit.Goals as goal

pub returns : goal.returns
returns g c = λ l kinds fs layout h. natural_laid_out l kinds fs layout h

use Rattle.cas_trial.proofs.lowering.Sourced.{keeps_as_source}
use Rattle.cas_trial.proofs.lowering.high_units_keep_as_source.Goals as goal

pub returns : goal.returns
returns c = λ unit balanced. keeps_as_source unit balanced

use Rattle.cas_trial.proofs.Fits.{apart_rules}
use Rattle.cas_trial.proofs.laws.apart_keeps_rules.Goals as goal

pub returns : goal.returns
returns c = λ setting fs laid. apart_rules setting fs laid

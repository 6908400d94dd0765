use Rattle.cas_trial.proofs.Pacing.{relay_rules}
use Rattle.cas_trial.proofs.raw.relay_keeps_rules.Goals as goal

pub returns : goal.returns
returns c = relay_rules

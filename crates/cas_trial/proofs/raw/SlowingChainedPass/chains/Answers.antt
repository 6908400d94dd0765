use Rattle.cas_trial.proofs.Pacing.{chained_steps}
use Rattle.cas_trial.proofs.raw.SlowingChainedPass.chains.Goals as goal

pub returns : goal.returns
returns c = λ setting a b made. chained_steps setting a.word b.word made.0 made.1

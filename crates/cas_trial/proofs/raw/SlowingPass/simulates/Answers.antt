use Rattle.cas_trial.proofs.Pacing.{slow_steps}
use Rattle.cas_trial.proofs.raw.SlowingPass.simulates.Goals as goal

pub returns : goal.returns
returns c = λ setting a b made fits. slow_steps setting a.word b.word made fits

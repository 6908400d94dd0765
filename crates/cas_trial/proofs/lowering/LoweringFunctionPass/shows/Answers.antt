use Rattle.cas_runs.proofs.Unmoved.{unmoved_is}
use Rattle.cas_trial.specs.Lowering.Match.{lowering}
use Rattle.cas_trial.proofs.lowering.Simulation.{lowering_shows}
use Rattle.cas_trial.proofs.lowering.LoweringFunctionPass.shows.Goals as goal

pub returns : goal.returns
returns c = unmoved_is lowering lowering_shows

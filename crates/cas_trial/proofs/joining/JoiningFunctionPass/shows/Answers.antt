use Rattle.cas_runs.proofs.Bringing.{moved_is}
use Rattle.cas_trial.specs.Joining.Match.{joining}
use Rattle.cas_trial.proofs.joining.Simulation.{joining_shows}
use Rattle.cas_trial.proofs.joining.JoiningFunctionPass.shows.Goals as goal

pub returns : goal.returns
returns c = moved_is joining joining_shows

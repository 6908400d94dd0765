use Rattle.cas_runs.proofs.Unmoved.{unmoved_is}
use Rattle.cas_trial.specs.Tailing.Match.{tail_calls}
use Rattle.cas_trial.proofs.tailing.Simulation.{all_first, tail_calls_show}
use Rattle.cas_trial.proofs.tailing.TailCallsFunctionPass.shows.Goals as goal

pub returns : goal.returns
returns c = unmoved_is (tail_calls (λ values. values)) (tail_calls_show (λ values. values) all_first)

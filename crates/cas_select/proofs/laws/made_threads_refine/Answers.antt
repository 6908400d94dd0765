use Rattle.cas_runs.specs.Unmoved.{unmoved}
use Rattle.cas_runs.proofs.Matched.{threads_pass}
use Rattle.cas_runs.proofs.Unmoved.{unmoved_is}
use Rattle.cas_select.proofs.Pass.{selects_shown}
use Rattle.cas_select.proofs.Simulation.{selects}
use Rattle.cas_select.proofs.laws.made_threads_refine.Goals as goal

pub returns : goal.returns
returns c = λ edge ss ts entry fits decls globals made. threads_pass (unmoved selects)
    (unmoved_is selects selects_shown) edge ts ss entry fits decls globals made

use Rattle.cas_runs.specs.Unmoved.{unmoved}
use Rattle.cas_runs.proofs.Matched.{threads_pass}
use Rattle.cas_runs.proofs.Unmoved.{unmoved_is}
use Rattle.cas_cshmgen.proofs.Pass.{cshmgen_shown}
use Rattle.cas_cshmgen.proofs.Simulation.{cshmgen}
use Rattle.cas_cshmgen.proofs.laws.made_threads_refine.Goals as goal

pub returns : goal.returns
returns c = λ edge ss ts entry fits decls globals made. threads_pass (unmoved cshmgen)
    (unmoved_is cshmgen cshmgen_shown) edge ts ss entry fits decls globals made

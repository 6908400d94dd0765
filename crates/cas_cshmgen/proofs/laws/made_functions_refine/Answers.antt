use Rattle.cas_runs.specs.Unmoved.{unmoved}
use Rattle.cas_runs.proofs.Matched.{functions_pass}
use Rattle.cas_runs.proofs.Unmoved.{unmoved_is}
use Rattle.cas_cshmgen.proofs.Pass.{cshmgen_shown}
use Rattle.cas_cshmgen.proofs.Simulation.{cshmgen}
use Rattle.cas_cshmgen.proofs.laws.made_functions_refine.Goals as goal

pub returns : goal.returns
returns c = λ decls g f defined made. functions_pass (unmoved cshmgen) (unmoved_is cshmgen cshmgen_shown)
    decls f g defined made

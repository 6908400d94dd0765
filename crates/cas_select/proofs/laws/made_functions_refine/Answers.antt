use Rattle.cas_runs.specs.Unmoved.{unmoved}
use Rattle.cas_runs.proofs.Matched.{functions_pass}
use Rattle.cas_runs.proofs.Unmoved.{unmoved_is}
use Rattle.cas_select.proofs.Pass.{selects_shown}
use Rattle.cas_select.proofs.Simulation.{selects}
use Rattle.cas_select.proofs.laws.made_functions_refine.Goals as goal

pub returns : goal.returns
returns c = λ decls g f defined made. functions_pass (unmoved selects) (unmoved_is selects selects_shown)
    decls f g defined made

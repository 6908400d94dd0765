use Rattle.cas_runs.specs.Unmoved.{unmoved}
use Rattle.cas_runs.proofs.Matched.{functions_pass}
use Rattle.cas_runs.proofs.Unmoved.{unmoved_is}
use Rattle.cas_rtl.specs.Code.{rtl_graph}
use Rattle.cas_tailcall.specs.Match.{tailcall}
use Rattle.cas_tailcall.proofs.Simulation.{tailcall_shown}
use Rattle.cas_tailcall.proofs.laws.made_functions_refine.Goals as goal

pub returns : goal.returns
returns c = λ decls f g defined made. functions_pass (unmoved (tailcall rtl_graph))
    (unmoved_is (tailcall rtl_graph) (tailcall_shown rtl_graph))
    decls f g defined made

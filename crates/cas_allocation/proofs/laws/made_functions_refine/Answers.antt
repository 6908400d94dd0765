use Rattle.cas_runs.proofs.Matched.{functions_pass}
use Rattle.cas_rtl.specs.Code.{rtl_graph}
use Rattle.cas_ltl.specs.Code.{ltl_graph}
use Rattle.cas_allocation.specs.Match.{allocation}
use Rattle.cas_allocation.specs.Usable.{with_usable}
use Rattle.cas_allocation.proofs.Pass.{allocation_shown}
use Rattle.cas_allocation.proofs.Usable.{usable_is}
use Rattle.cas_allocation.proofs.laws.made_functions_refine.Goals as goal

pub returns : goal.returns
returns c = λ decls f g defined made. functions_pass (with_usable (allocation ltl_graph rtl_graph))
    (usable_is (allocation ltl_graph rtl_graph) (allocation_shown ltl_graph rtl_graph))
    decls f g defined made

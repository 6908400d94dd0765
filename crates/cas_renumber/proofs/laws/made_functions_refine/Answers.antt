use Rattle.cas_runs.specs.Unmoved.{unmoved}
use Rattle.cas_runs.proofs.Matched.{functions_pass}
use Rattle.cas_runs.proofs.Unmoved.{unmoved_is}
use Rattle.cas_rtl.specs.Code.{rtl_graph}
use Rattle.cas_rtl.specs.Rtl.{pseudo_registers, rtl_prices}
use Rattle.cas_graphs.specs.Match.{shortcut}
use Rattle.cas_renumber.proofs.Pass.{shown}
use Rattle.cas_renumber.proofs.laws.made_functions_refine.Goals as goal

pub returns : goal.returns
returns c = λ decls f g defined made. functions_pass (unmoved (shortcut pseudo_registers rtl_prices rtl_graph))
    (unmoved_is (shortcut pseudo_registers rtl_prices rtl_graph) shown)
    decls f g defined made.shortcut

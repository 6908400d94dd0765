use Rattle.cas_runs.specs.Unmoved.{unmoved}
use Rattle.cas_runs.proofs.Matched.{threads_pass}
use Rattle.cas_runs.proofs.Unmoved.{unmoved_is}
use Rattle.cas_rtl.specs.Code.{rtl_graph}
use Rattle.cas_rtl.specs.Rtl.{pseudo_registers, rtl_prices}
use Rattle.cas_graphs.specs.Match.{shortcut}
use Rattle.cas_renumber.proofs.Pass.{shown, units_other}
use Rattle.cas_renumber.proofs.laws.made_threads_refine.Goals as goal

pub returns : goal.returns
returns c = λ edge ss ts entry fits decls globals made. threads_pass (unmoved (shortcut pseudo_registers rtl_prices rtl_graph))
    (unmoved_is (shortcut pseudo_registers rtl_prices rtl_graph) shown)
    edge ts ss entry fits decls globals (units_other ts ss made)

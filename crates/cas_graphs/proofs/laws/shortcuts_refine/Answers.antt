use Rattle.cas_runs.specs.Unmoved.{unmoved}
use Rattle.cas_runs.proofs.Matched.{functions_pass}
use Rattle.cas_runs.proofs.Unmoved.{unmoved_is}
use Rattle.cas_rtl.specs.Code.{rtl_graph}
use Rattle.cas_rtl.specs.Rtl.{pseudo_registers, rtl_prices}
use Rattle.cas_rtl.proofs.Tariffs.{rtl_tariff}
use Rattle.cas_graphs.specs.Match.{shortcut}
use Rattle.cas_graphs.proofs.Shortcuts.{shortcuts_shown}
use Rattle.cas_graphs.proofs.Prices.{rtl_by_form}
use Rattle.cas_graphs.proofs.laws.shortcuts_refine.Goals as goal

pub returns : goal.returns
returns c = λ decls f g defined made. functions_pass (unmoved (shortcut pseudo_registers rtl_prices rtl_graph))
    (unmoved_is (shortcut pseudo_registers rtl_prices rtl_graph)
    (shortcuts_shown pseudo_registers rtl_prices rtl_graph rtl_by_form (rtl_tariff rtl_graph)))
    decls f g defined made

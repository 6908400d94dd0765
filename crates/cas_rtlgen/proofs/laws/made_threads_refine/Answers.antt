use Rattle.cas_runs.specs.Unmoved.{unmoved}
use Rattle.cas_runs.proofs.Matched.{threads_pass}
use Rattle.cas_runs.proofs.Unmoved.{unmoved_is}
use Rattle.cas_rtl.specs.Code.{rtl_graph}
use Rattle.cas_rtlgen.proofs.Pass.{rtlgen_shown}
use Rattle.cas_rtlgen.proofs.Queries.{rtlgen}
use Rattle.cas_rtlgen.proofs.laws.made_threads_refine.Goals as goal

pub returns : goal.returns
returns c = λ edge ss ts entry fits decls globals made. threads_pass (unmoved (rtlgen rtl_graph))
    (unmoved_is (rtlgen rtl_graph) (rtlgen_shown rtl_graph)) edge ts ss entry fits decls globals made

use Rattle.std.proofs.lemmas.Result.{IfOk-weaker}
use Rattle.cas_syntax.specs.Tree.{module_tree}
use Rattle.cas_cshmgen.proofs.In_order.{unit_refines, no_larger}
use Rattle.cas_cshmgen.proofs.unit.cshmgen.Goals as goal

pub returns-clause-refines : goal.returns-clause-refines
returns-clause-refines c =
    let typed = c.args.typed.now in
    IfOk-weaker c.make_unit.result _ _ (λ unit made r is fors. unit_refines (module_tree typed.filled)
    typed.functions r is fors unit (made r is)) c.make_unit.ensures

pub returns-clause-bounds : goal.returns-clause-bounds
returns-clause-bounds c =
    let typed = c.args.typed.now in
    IfOk-weaker c.make_unit.result _ _ (λ unit made r is fors. no_larger (module_tree typed.filled)
    typed.functions r is fors unit (made r is)) c.make_unit.ensures

use Rattle.std.proofs.lemmas.Result.{IfOk-weaker}
use Rattle.cas_rtlgen.proofs.Units.{unit_refines, none_larger}
use Rattle.cas_rtlgen.proofs.unit.rtlgen.Goals as goal

pub returns-clause-refines : goal.returns-clause-refines
returns-clause-refines c =
    IfOk-weaker c.make_unit.result _ _ (λ made is defined. unit_refines made c.args.unit is defined) c.make_unit.ensures

pub returns-clause-bounds : goal.returns-clause-bounds
returns-clause-bounds c =
    IfOk-weaker c.make_unit.result _ _ (λ made is. none_larger made c.args.unit is) c.make_unit.ensures

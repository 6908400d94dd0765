use Rattle.std.proofs.Common.{[]}
use Rattle.std.proofs.lemmas.Result.{IfOk-weaker}
use Rattle.cas_trial.proofs.joining.join.Goals as goal

pub returns-clause-values : goal.returns-clause-values
returns-clause-values c = IfOk-weaker c.translate.result _ _ (λ made h. h []) c.translate.ensures

pub returns-clause-refines : goal.returns-clause-refines
returns-clause-refines c = IfOk-weaker c.translate.result _ _
    (λ made h. λ decls defined. c.functions_refine.ensures decls c.args.program.now made defined (h decls))
    c.translate.ensures

use Rattle.std.proofs.lemmas.Result.{IfOk-weaker}
use Rattle.cas_trial.proofs.lowering.LoweringFunctionPass.translate.Goals as goal

pub returns : goal.returns
returns c = IfOk-weaker c.lower.result _ _ (λ made h. λ decls. h) c.lower.ensures

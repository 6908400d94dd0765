use Rattle.std.proofs.lemmas.Result.{IfOk-weaker}
use Rattle.cas_tailcall.proofs.Functions.{function_refines, has_tail_calls, no_larger}
use Rattle.cas_tailcall.proofs.function.tailcall.Goals as goal

pub returns-clause-refines : goal.returns-clause-refines
returns-clause-refines c =
    IfOk-weaker c.make_fun.result _ _ (λ tails is. function_refines tails c.args.fun.now is) c.make_fun.ensures

pub returns-clause-calls : goal.returns-clause-calls
returns-clause-calls c =
    IfOk-weaker c.make_fun.result _ _ (λ tails is. has_tail_calls tails c.args.fun.now is) c.make_fun.ensures

pub returns-clause-bounds : goal.returns-clause-bounds
returns-clause-bounds c =
    IfOk-weaker c.make_fun.result _ _ (λ tails is. no_larger tails c.args.fun.now is) c.make_fun.ensures

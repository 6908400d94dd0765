use Rattle.cas_memory.specs.Values.{value_of}
use Rattle.cas_eval.specs.Answer.{eval_state}
use Rattle.cas_eval.proofs.Answering.{ok_then, stops}
use Rattle.cas_eval.proofs.expressions.global.Goals as goal

pub returns-in_err-place : goal.returns-in_err-place
returns-in_err-place c =
    stops value_of _ _ (eval_state c.args.context.now) _ _ c.from_residual.ensures.1 c.in_err-place.ensures

pub returns : goal.returns
returns c =
    ok_then (eval_state c.args.context.now) _ _ _ _ c.in_ok-place.ensures
    (c.global.ensures)

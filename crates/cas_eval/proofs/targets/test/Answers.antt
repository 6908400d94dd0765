use Rattle.cas_eval.specs.Answer.{eval_state}
use Rattle.cas_eval.proofs.Answering.{ok_then, stopped}
use Rattle.cas_eval.proofs.targets.test.Goals as goal

pub returns-in_err-evaluate : goal.returns-in_err-evaluate
returns-in_err-evaluate c =
    stopped _ _ (eval_state c.args.context.now) _ _ c.from_residual.ensures.1 c.in_err-evaluate.ensures

pub returns : goal.returns
returns c =
    ok_then (eval_state c.args.context.now) _ _ _ _ c.in_ok-evaluate.ensures
    (c.condition.ensures (eval_state c.args.context.now))

use Rattle.std.proofs.Common.{sym}
use Rattle.cas_step.specs.Asks.{word}
use Rattle.cas_memory.specs.Values.{value_of}
use Rattle.cas_eval.specs.Answer.{eval_state}
use Rattle.cas_eval.proofs.Answering.{given, ok_then, stops}
use Rattle.cas_eval.proofs.expressions.difference_of.Goals as goal

pub returns-in_err-first : goal.returns-in_err-first
returns-in_err-first c =
    stops value_of _ _ (eval_state c.args.context.now) _ _ c.from_residual.ensures.1
    (c.in_err-first.ensures (eval_state c.args.context.now))

pub returns-in_err-second : goal.returns-in_err-second
returns-in_err-second c =
    ok_then (eval_state c.args.context.now) _ _ _ _ (c.in_ok-first.ensures (eval_state c.args.context.now))
    (stops value_of _ _ (eval_state c.args.context.now) _ _ c.from_residual-in_err-second.ensures.1
    (c.in_err-second.ensures (eval_state c.args.context.now)))

pub returns-in_err-difference : goal.returns-in_err-difference
returns-in_err-difference c =
    ok_then (eval_state c.args.context.now) _ _ _ _ (c.in_ok-first.ensures (eval_state c.args.context.now))
    (ok_then (eval_state c.args.context.now) _ _ _ _ (c.in_ok-second.ensures (eval_state c.args.context.now))
    (stops value_of _ _ (eval_state c.args.context.now) _ _ c.from_residual-in_err-difference.ensures.1
    c.in_err-difference.ensures))

pub returns : goal.returns
returns c =
    ok_then (eval_state c.args.context.now) _ _ _ _ (c.in_ok-first.ensures (eval_state c.args.context.now))
    (ok_then (eval_state c.args.context.now) _ _ _ _ (c.in_ok-second.ensures (eval_state c.args.context.now))
    (ok_then (eval_state c.args.context.now) _ _ _ _ c.in_ok-difference.ensures
    (sym (given (eval_state c.args.context.now) (word c.in_ok-difference.field-0)))))

use Rattle.std.proofs.Common.{sym, ap, ◌∙◌, Ok}
use Rattle.cas_step.specs.Asks.{word}
use Rattle.cas_step.specs.Operators as o
use Rattle.cas_memory.specs.Values.{value_of}
use Rattle.cas_eval.specs.Answer.{eval_state}
use Rattle.cas_eval.proofs.Answering.{given, ok_then, stops}
use Rattle.cas_eval.proofs.expressions.comparison_of.Goals as goal

pub returns-in_err-first : goal.returns-in_err-first
returns-in_err-first c =
    stops value_of _ _ (eval_state c.args.context.now) _ _ c.from_residual.ensures.1
    (c.in_err-first.ensures (eval_state c.args.context.now))

pub returns-in_err-second : goal.returns-in_err-second
returns-in_err-second c =
    ok_then (eval_state c.args.context.now) _ _ _ _ (c.in_ok-first.ensures (eval_state c.args.context.now))
    (stops value_of _ _ (eval_state c.args.context.now) _ _ c.from_residual-in_err-second.ensures.1
    (c.in_err-second.ensures (eval_state c.args.context.now)))

pub returns-in_err-compared : goal.returns-in_err-compared
returns-in_err-compared c =
    ok_then (eval_state c.args.context.now) _ _ _ _ (c.in_ok-first.ensures (eval_state c.args.context.now))
    (ok_then (eval_state c.args.context.now) _ _ _ _ (c.in_ok-second.ensures (eval_state c.args.context.now))
    (stops value_of _ _ (eval_state c.args.context.now) _ _ c.from_residual-in_err-compared.ensures.1
    c.in_err-compared.ensures))

pub returns : goal.returns
returns c =
    ok_then (eval_state c.args.context.now) _ _ _ _ (c.in_ok-first.ensures (eval_state c.args.context.now))
    (ok_then (eval_state c.args.context.now) _ _ _ _ (c.in_ok-second.ensures (eval_state c.args.context.now))
    (ok_then (eval_state c.args.context.now) _ _ _ _ c.in_ok-compared.ensures
    (ap (λ n. Ok (word n)) c.truth.ensures
    ∙ sym (given (eval_state c.args.context.now) (word (o.truth c.in_ok-compared.field-0))))))

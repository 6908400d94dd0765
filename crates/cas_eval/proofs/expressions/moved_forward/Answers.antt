use Rattle.std.proofs.Common.{ap, ◌∙◌}
use Rattle.cas_step.specs.Pointers as p
use Rattle.cas_memory.specs.Values.{value_of}
use Rattle.cas_eval.specs.Answer.{answer, eval_state}
use Rattle.cas_eval.specs.Cells.{place_in}
use Rattle.cas_eval.proofs.Answering.{ok_then, stops}
use Rattle.cas_eval.proofs.Numbers.{passed}
use Rattle.cas_eval.proofs.expressions.moved_forward.Goals as goal

pub returns-in_err-from : goal.returns-in_err-from
returns-in_err-from c =
    stops value_of _ _ (eval_state c.args.context.now) _ _ c.from_residual.ensures.1
    (c.in_err-from.ensures (eval_state c.args.context.now))

pub returns-in_err-word_in : goal.returns-in_err-word_in
returns-in_err-word_in c =
    ok_then (eval_state c.args.context.now) _ _ _ _ (c.in_ok-from.ensures (eval_state c.args.context.now))
    (stops value_of _ _ (eval_state c.args.context.now) _ _ c.from_residual-in_err-word_in.ensures.1
    (c.in_err-word_in.ensures (eval_state c.args.context.now)))

pub returns : goal.returns
returns c =
    ok_then (eval_state c.args.context.now) _ _ _ _ (c.in_ok-from.ensures (eval_state c.args.context.now))
    (ok_then (eval_state c.args.context.now) _ _ _ _ (c.in_ok-word_in.ensures (eval_state c.args.context.now))
    (c.moved.ensures
    ∙ ap (λ i. answer (eval_state c.args.context.now) (p.moved (place_in c.in_ok-from.from) i))
    (passed c.number_of.result c.number_of.ensures.low c.number_of.ensures.high)
    ∙ ap (λ i. answer (eval_state c.args.context.now) (p.moved (place_in c.in_ok-from.from) i))
    c.number_of.ensures.number))

use Rattle.std.proofs.Common.{sym, ap, ◌∙◌, true, false, Ok}
use Rattle.cas_step.specs.Asks.{word}
use Rattle.cas_step.specs.Operators as o
use Rattle.cas_memory.specs.Values.{value_of}
use Rattle.cas_eval.specs.Answer.{eval_state}
use Rattle.cas_eval.proofs.Answering.{given, known, ok_then, stops}
use Rattle.cas_eval.proofs.expressions.+evaluation.Goals as goal

pub pointer_plus-returns-in_err-first : goal.pointer_plus-returns-in_err-first
pointer_plus-returns-in_err-first t c =
    stops value_of _ _ (eval_state c.args.context.now) _ _ c.from_residual.ensures.1 c.in_err-first.ensures

pub pointer_plus-returns-in_err-second : goal.pointer_plus-returns-in_err-second
pointer_plus-returns-in_err-second t c =
    ok_then (eval_state c.args.context.now) _ _ _ _ c.in_ok-first.ensures
    (stops value_of _ _ (eval_state c.args.context.now) _ _ c.from_residual-in_err-second.ensures.1
    c.in_err-second.ensures)

pub pointer_plus-returns : goal.pointer_plus-returns
pointer_plus-returns t c =
    ok_then (eval_state c.args.context.now) _ _ _ _ c.in_ok-first.ensures
    (ok_then (eval_state c.args.context.now) _ _ _ _ c.in_ok-second.ensures
    (c.moved_forward.ensures))

pub plus_pointer-returns-in_err-first : goal.plus_pointer-returns-in_err-first
plus_pointer-returns-in_err-first t c =
    stops value_of _ _ (eval_state c.args.context.now) _ _ c.from_residual.ensures.1 c.in_err-first.ensures

pub plus_pointer-returns-in_err-second : goal.plus_pointer-returns-in_err-second
plus_pointer-returns-in_err-second t c =
    ok_then (eval_state c.args.context.now) _ _ _ _ c.in_ok-first.ensures
    (stops value_of _ _ (eval_state c.args.context.now) _ _ c.from_residual-in_err-second.ensures.1
    c.in_err-second.ensures)

pub plus_pointer-returns : goal.plus_pointer-returns
plus_pointer-returns t c =
    ok_then (eval_state c.args.context.now) _ _ _ _ c.in_ok-first.ensures
    (ok_then (eval_state c.args.context.now) _ _ _ _ c.in_ok-second.ensures
    (c.moved_forward.ensures))

pub pointer_minus-returns-in_err-first : goal.pointer_minus-returns-in_err-first
pointer_minus-returns-in_err-first t c =
    stops value_of _ _ (eval_state c.args.context.now) _ _ c.from_residual.ensures.1 c.in_err-first.ensures

pub pointer_minus-returns-in_err-second : goal.pointer_minus-returns-in_err-second
pointer_minus-returns-in_err-second t c =
    ok_then (eval_state c.args.context.now) _ _ _ _ c.in_ok-first.ensures
    (stops value_of _ _ (eval_state c.args.context.now) _ _ c.from_residual-in_err-second.ensures.1
    c.in_err-second.ensures)

pub pointer_minus-returns : goal.pointer_minus-returns
pointer_minus-returns t c =
    ok_then (eval_state c.args.context.now) _ _ _ _ c.in_ok-first.ensures
    (ok_then (eval_state c.args.context.now) _ _ _ _ c.in_ok-second.ensures
    (c.moved_back.ensures))

pub pointer_difference-returns-in_err-first : goal.pointer_difference-returns-in_err-first
pointer_difference-returns-in_err-first t c =
    stops value_of _ _ (eval_state c.args.context.now) _ _ c.from_residual.ensures.1 c.in_err-first.ensures

pub pointer_difference-returns-in_err-second : goal.pointer_difference-returns-in_err-second
pointer_difference-returns-in_err-second t c =
    ok_then (eval_state c.args.context.now) _ _ _ _ c.in_ok-first.ensures
    (stops value_of _ _ (eval_state c.args.context.now) _ _ c.from_residual-in_err-second.ensures.1
    c.in_err-second.ensures)

pub pointer_difference-returns : goal.pointer_difference-returns
pointer_difference-returns t c =
    ok_then (eval_state c.args.context.now) _ _ _ _ c.in_ok-first.ensures
    (ok_then (eval_state c.args.context.now) _ _ _ _ c.in_ok-second.ensures
    (c.difference_of.ensures))

pub compare-returns-in_err-first : goal.compare-returns-in_err-first
compare-returns-in_err-first t c =
    stops value_of _ _ (eval_state c.args.context.now) _ _ c.from_residual.ensures.1 c.in_err-first.ensures

pub compare-returns-in_err-second : goal.compare-returns-in_err-second
compare-returns-in_err-second t c =
    ok_then (eval_state c.args.context.now) _ _ _ _ c.in_ok-first.ensures
    (stops value_of _ _ (eval_state c.args.context.now) _ _ c.from_residual-in_err-second.ensures.1
    c.in_err-second.ensures)

pub compare-returns : goal.compare-returns
compare-returns t c =
    ok_then (eval_state c.args.context.now) _ _ _ _ c.in_ok-first.ensures
    (ok_then (eval_state c.args.context.now) _ _ _ _ c.in_ok-second.ensures
    (c.comparison_of.ensures))

pub binary_of-returns-in_err-first : goal.binary_of-returns-in_err-first
binary_of-returns-in_err-first t c =
    stops value_of _ _ (eval_state c.args.context.now) _ _ c.from_residual.ensures.1 c.in_err-first.ensures

pub binary_of-returns-in_err-second : goal.binary_of-returns-in_err-second
binary_of-returns-in_err-second t c =
    ok_then (eval_state c.args.context.now) _ _ _ _ c.in_ok-first.ensures
    (stops value_of _ _ (eval_state c.args.context.now) _ _ c.from_residual-in_err-second.ensures.1
    c.in_err-second.ensures)

pub binary_of-returns : goal.binary_of-returns
binary_of-returns t c =
    ok_then (eval_state c.args.context.now) _ _ _ _ c.in_ok-first.ensures
    (ok_then (eval_state c.args.context.now) _ _ _ _ c.in_ok-second.ensures
    ((c.binary_value.ensures (eval_state c.args.context.now))))

pub unary_of-returns-in_err-value : goal.unary_of-returns-in_err-value
unary_of-returns-in_err-value t c =
    stops value_of _ _ (eval_state c.args.context.now) _ _ c.from_residual.ensures.1 c.in_err-value.ensures

pub unary_of-returns : goal.unary_of-returns
unary_of-returns t c =
    ok_then (eval_state c.args.context.now) _ _ _ _ c.in_ok-value.ensures
    ((c.unary_value.ensures (eval_state c.args.context.now)))

pub narrow_of-returns-in_err-value : goal.narrow_of-returns-in_err-value
narrow_of-returns-in_err-value t c =
    stops value_of _ _ (eval_state c.args.context.now) _ _ c.from_residual.ensures.1 c.in_err-value.ensures

pub narrow_of-returns : goal.narrow_of-returns
narrow_of-returns t c =
    ok_then (eval_state c.args.context.now) _ _ _ _ c.in_ok-value.ensures
    ((c.narrowed_value.ensures (eval_state c.args.context.now)))

pub element-returns-in_err-index : goal.element-returns-in_err-index
element-returns-in_err-index t c =
    stops value_of _ _ (eval_state c.args.context.now) _ _ c.from_residual.ensures.1 c.in_err-index.ensures

pub element-returns-in_err-place : goal.element-returns-in_err-place
element-returns-in_err-place t c =
    ok_then (eval_state c.args.context.now) _ _ _ _ c.in_ok-index.ensures
    (stops value_of _ _ (eval_state c.args.context.now) _ _ c.from_residual-in_err-place.ensures.1
    c.in_err-place.ensures)

pub element-returns : goal.element-returns
element-returns t c =
    ok_then (eval_state c.args.context.now) _ _ _ _ c.in_ok-index.ensures
    (ok_then (eval_state c.args.context.now) _ _ _ _ c.in_ok-place.ensures
    (c.global.ensures))

pub behind-returns-in_err-value : goal.behind-returns-in_err-value
behind-returns-in_err-value t c =
    stops value_of _ _ (eval_state c.args.context.now) _ _ c.from_residual.ensures.1 c.in_err-value.ensures

pub behind-returns-in_err-pointed : goal.behind-returns-in_err-pointed
behind-returns-in_err-pointed t c =
    ok_then (eval_state c.args.context.now) _ _ _ _ c.in_ok-value.ensures
    (stops value_of _ _ (eval_state c.args.context.now) _ _ c.from_residual-in_err-pointed.ensures.1
    (c.in_err-pointed.ensures (eval_state c.args.context.now)))

pub behind-returns : goal.behind-returns
behind-returns t c =
    ok_then (eval_state c.args.context.now) _ _ _ _ c.in_ok-value.ensures
    (ok_then (eval_state c.args.context.now) _ _ _ _ (c.in_ok-pointed.ensures (eval_state c.args.context.now))
    (c.behind.ensures))

pub truth_of-returns-in_err-value : goal.truth_of-returns-in_err-value
truth_of-returns-in_err-value t c =
    stops value_of _ _ (eval_state c.args.context.now) _ _ c.from_residual.ensures.1 c.in_err-value.ensures

pub truth_of-returns-in_err-condition : goal.truth_of-returns-in_err-condition
truth_of-returns-in_err-condition t c =
    ok_then (eval_state c.args.context.now) _ _ _ _ c.in_ok-value.ensures
    (stops value_of _ _ (eval_state c.args.context.now) _ _ c.from_residual-in_err-condition.ensures.1
    (c.in_err-condition.ensures (eval_state c.args.context.now)))

pub truth_of-returns : goal.truth_of-returns
truth_of-returns t c =
    ok_then (eval_state c.args.context.now) _ _ _ _ c.in_ok-value.ensures
    (ok_then (eval_state c.args.context.now) _ _ _ _ (c.in_ok-condition.ensures (eval_state c.args.context.now))
    (ap (λ n. Ok (word n)) c.truth.ensures
    ∙ sym (given (eval_state c.args.context.now) (word (o.truth c.in_ok-condition.field-0)))))

pub and_also-returns-in_err-first : goal.and_also-returns-in_err-first
and_also-returns-in_err-first t c =
    stops value_of _ _ (eval_state c.args.context.now) _ _ c.from_residual.ensures.1 c.in_err-first.ensures

pub and_also-returns-in_err-condition : goal.and_also-returns-in_err-condition
and_also-returns-in_err-condition t c =
    ok_then (eval_state c.args.context.now) _ _ _ _ c.in_ok-first.ensures
    (stops value_of _ _ (eval_state c.args.context.now) _ _ c.from_residual-in_err-condition.ensures.1
    (c.in_err-condition.ensures (eval_state c.args.context.now)))

pub and_also-returns-then-branch : goal.and_also-returns-then-branch
and_also-returns-then-branch t c =
    ok_then (eval_state c.args.context.now) _ _ _ _ c.in_ok-first.ensures
    (ok_then (eval_state c.args.context.now) _ _ _ _ (known c.in_ok-condition.field-0 true
    (c.in_ok-condition.ensures (eval_state c.args.context.now)) c.if-branch.true)
    (c.truth_of.ensures))

pub and_also-returns-else-branch : goal.and_also-returns-else-branch
and_also-returns-else-branch t c =
    ok_then (eval_state c.args.context.now) _ _ _ _ c.in_ok-first.ensures
    (ok_then (eval_state c.args.context.now) _ _ _ _ (known c.in_ok-condition.field-0 false
    (c.in_ok-condition.ensures (eval_state c.args.context.now)) c.if-branch.false)
    (sym (given (eval_state c.args.context.now) (word 0))))

pub or_else-returns-in_err-first : goal.or_else-returns-in_err-first
or_else-returns-in_err-first t c =
    stops value_of _ _ (eval_state c.args.context.now) _ _ c.from_residual.ensures.1 c.in_err-first.ensures

pub or_else-returns-in_err-condition : goal.or_else-returns-in_err-condition
or_else-returns-in_err-condition t c =
    ok_then (eval_state c.args.context.now) _ _ _ _ c.in_ok-first.ensures
    (stops value_of _ _ (eval_state c.args.context.now) _ _ c.from_residual-in_err-condition.ensures.1
    (c.in_err-condition.ensures (eval_state c.args.context.now)))

pub or_else-returns-then-branch : goal.or_else-returns-then-branch
or_else-returns-then-branch t c =
    ok_then (eval_state c.args.context.now) _ _ _ _ c.in_ok-first.ensures
    (ok_then (eval_state c.args.context.now) _ _ _ _ (known c.in_ok-condition.field-0 true
    (c.in_ok-condition.ensures (eval_state c.args.context.now)) c.if-branch.true)
    (sym (given (eval_state c.args.context.now) (word 1))))

pub or_else-returns-else-branch : goal.or_else-returns-else-branch
or_else-returns-else-branch t c =
    ok_then (eval_state c.args.context.now) _ _ _ _ c.in_ok-first.ensures
    (ok_then (eval_state c.args.context.now) _ _ _ _ (known c.in_ok-condition.field-0 false
    (c.in_ok-condition.ensures (eval_state c.args.context.now)) c.if-branch.false)
    (c.truth_of.ensures))

pub choose-returns-in_err-first : goal.choose-returns-in_err-first
choose-returns-in_err-first t c =
    stops value_of _ _ (eval_state c.args.context.now) _ _ c.from_residual.ensures.1 c.in_err-first.ensures

pub choose-returns-in_err-condition : goal.choose-returns-in_err-condition
choose-returns-in_err-condition t c =
    ok_then (eval_state c.args.context.now) _ _ _ _ c.in_ok-first.ensures
    (stops value_of _ _ (eval_state c.args.context.now) _ _ c.from_residual-in_err-condition.ensures.1
    (c.in_err-condition.ensures (eval_state c.args.context.now)))

pub choose-returns-then-branch : goal.choose-returns-then-branch
choose-returns-then-branch t c =
    ok_then (eval_state c.args.context.now) _ _ _ _ c.in_ok-first.ensures
    (ok_then (eval_state c.args.context.now) _ _ _ _ (known c.in_ok-condition.field-0 true
    (c.in_ok-condition.ensures (eval_state c.args.context.now)) c.if-branch.true)
    (c.evaluate-then-branch.ensures))

pub choose-returns-else-branch : goal.choose-returns-else-branch
choose-returns-else-branch t c =
    ok_then (eval_state c.args.context.now) _ _ _ _ c.in_ok-first.ensures
    (ok_then (eval_state c.args.context.now) _ _ _ _ (known c.in_ok-condition.field-0 false
    (c.in_ok-condition.ensures (eval_state c.args.context.now)) c.if-branch.false)
    (c.evaluate-else-branch.ensures))

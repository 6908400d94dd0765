use Rattle.std.proofs.Common.{◌≡◌, length, map}
use Rattle.cas_step.specs.Evaluate.{values_of}
use Rattle.cas_typed.specs.Resolved.{typed_expr_tree}
use Rattle.cas_eval.specs.Answer.{answer, eval_state, eval_context, map_answer}
use Rattle.cas_eval.specs.Arguments.{nothing}
use Rattle.cas_eval.proofs.args.check_arguments.Given as goal

abbrev pub invariant-each : goal.invariant-each
invariant-each l =
    map_answer nothing
    (answer (eval_state l.context) (values_of (eval_context (eval_state l.context)) (map typed_expr_tree l.args)))
    ≡ map_answer nothing
    (answer (eval_state l.context) (values_of (eval_context (eval_state l.context)) (map typed_expr_tree l.rest)))

abbrev pub decreases-each : goal.decreases-each
decreases-each l = length l.rest

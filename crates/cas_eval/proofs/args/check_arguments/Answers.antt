use Rattle.std.proofs.Common.{◌≡◌, ◌∷◌, List, map, ap, sym, ◌∙◌}
use Rattle.cas_step.specs.Evaluate.{values_of}
use Rattle.cas_typed.specs.Resolved.{typed_expr_tree}
use Rattle.cas_typed.specs.declared.tree.TypedExpr.{TypedExpr}
use Rattle.cas_memory.specs.Values.{value_of}
use Rattle.cas_eval.specs.Answer.{answer, eval_state, eval_context, map_answer}
use Rattle.cas_eval.specs.Arguments.{nothing}
use Rattle.cas_eval.proofs.Argument_lemmas.{unchecked, value_checked, none_unchecked, is_empty}
use Rattle.cas_eval.proofs.args.check_arguments.Goals as goal

pub returns-in_err-evaluate : goal.returns-in_err-evaluate
returns-in_err-evaluate c =
    let r = eval_state c.args.context.now in
    let is : c.each.rest.now ≡ c.in-Some.arg.now ∷ c.in-Some.others.now = c.in-Some.ensures.cases.0 in
    unchecked c.from_residual.result c.in_err-evaluate.field-0.0 r (typed_expr_tree c.in-Some.arg.now)
    (map typed_expr_tree c.in-Some.others.now) c.from_residual.ensures.1 c.in_err-evaluate.ensures
    ∙ sym (c.each.invariant
    ∙ ap (λ (l : List TypedExpr). map_answer nothing
    (answer r (values_of (eval_context r) (map typed_expr_tree l)))) is)

pub each-preserved : goal.each-preserved
each-preserved c =
    let r = eval_state c.args.context.now in
    let is : c.each.rest.now ≡ c.in-Some.arg.now ∷ c.in-Some.others.now = c.in-Some.ensures.cases.0 in
    c.each.invariant
    ∙ ap (λ (l : List TypedExpr). map_answer nothing (answer r (values_of (eval_context r) (map typed_expr_tree l)))) is
    ∙ value_checked r (typed_expr_tree c.in-Some.arg.now) (map typed_expr_tree c.in-Some.others.now)
    (value_of c.in_ok-evaluate.field-0) c.in_ok-evaluate.ensures

pub returns : goal.returns
returns c =
    let r = eval_state c.args.context.now in
    sym (c.each.invariant
    ∙ ap (λ (l : List TypedExpr). map_answer nothing (answer r (values_of (eval_context r) (map typed_expr_tree l))))
    (is_empty c.each.rest.now c.in_default.ensures.cases)
    ∙ none_unchecked r)

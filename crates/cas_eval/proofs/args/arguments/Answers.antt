use Rattle.std.proofs.Common.{◌≡◌, ◌∷◌, ◌++◌, List, [], map, if◌then◌else◌, ap, ◌∙◌}
use Rattle.std.proofs.lemmas.List.{map-append}
use Rattle.cas_step.specs.Evaluate.{values_of}
use Rattle.cas_typed.specs.Resolved.{typed_expr_tree}
use Rattle.cas_typed.specs.declared.tree.TypedExpr.{TypedExpr}
use Rattle.cas_memory.specs.Values.{value_of}
use Rattle.cas_eval.specs.Answer.{answer, eval_state, eval_context, map_answer}
use Rattle.cas_eval.proofs.Argument_lemmas.{no_values, values_added, all_values, is_empty}
use Rattle.cas_eval.proofs.args.arguments.Goals as goal

pub returns-in-Err : goal.returns-in-Err
returns-in-Err c =
    let r = eval_state c.args.context.now in
    let is : c.each.rest.now ≡ c.in-Some.arg.now ∷ c.in-Some.others.now = c.in-Some.ensures.cases.0 in
    c.each.invariant
    ∙ ap (λ (l : List TypedExpr). map_answer (λ vs. map value_of c.each.values.items ++ vs)
    (answer r (values_of (eval_context r) (map typed_expr_tree l)))) is
    ∙ ap (map_answer (λ vs. map value_of c.each.values.items ++ vs))
    (no_values r (typed_expr_tree c.in-Some.arg.now) (map typed_expr_tree c.in-Some.others.now)
    c.in-Err.why c.in-Err.ensures)

pub each-preserved : goal.each-preserved
each-preserved c =
    let r = eval_state c.args.context.now in
    let is : c.each.rest.now ≡ c.in-Some.arg.now ∷ c.in-Some.others.now = c.in-Some.ensures.cases.0 in
    let v = c.in-Ok-evaluate.value in
    c.each.invariant
    ∙ ap (λ (l : List TypedExpr). map_answer (λ vs. map value_of c.each.values.items ++ vs)
    (answer r (values_of (eval_context r) (map typed_expr_tree l)))) is
    ∙ values_added r (typed_expr_tree c.in-Some.arg.now) (map typed_expr_tree c.in-Some.others.now)
    (map value_of c.each.values.items) (map value_of c.push.new.self.items) (value_of v)
    c.in-Ok-evaluate.ensures
    (ap (map value_of)
    (c.push.ensures.items ∙ ap (λ t. if t then c.each.values.items ++ v ∷ [] else c.each.values.items)
    c.if-is_err.ensures.negation) ∙ map-append value_of c.each.values.items (v ∷ []))

pub returns : goal.returns
returns c =
    let r = eval_state c.args.context.now in
    c.each.invariant
    ∙ ap (λ (l : List TypedExpr). map_answer (λ vs. map value_of c.each.values.items ++ vs)
    (answer r (values_of (eval_context r) (map typed_expr_tree l))))
    (is_empty c.each.rest.now c.in_default-split_first.ensures.cases)
    ∙ all_values r (map value_of c.each.values.items)

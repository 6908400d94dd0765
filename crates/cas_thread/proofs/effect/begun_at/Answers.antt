use Rattle.std.proofs.Common.{Some, ap, ◌∙◌}
use Rattle.cas_step.specs.Continuation.{chooses}
use Rattle.cas_eval.specs.Answer.{answer, eval_state, eval_context}
use Rattle.cas_thread.specs.Continuations.{IsBegunRow}
use Rattle.cas_thread.proofs.Reading.{at_this}
use Rattle.cas_thread.proofs.effect.begun_at.Goals as goal

pub returns-in-Some-begun_test : goal.returns-in-Some-begun_test
returns-in-Some-begun_test c = λ p t a some others at.
    let rows = c.args.rows.now in
    let r = eval_state c.args.context.now in
    let is = c.in-Some-begun_test.ensures.some rows p t a
    (at_this rows c.args.number c.in-Some.row.now (IsBegunRow rows p t a) c.in-Some.ensures.some at) in
    c.tested.ensures some others ∙ ap (λ x. answer r (chooses (eval_context r) (Some x) some others)) is

pub returns-in-None-begun_test : goal.returns-in-None-begun_test
returns-in-None-begun_test c = λ p t a some others at.
    let rows = c.args.rows.now in
    absurd (c.in-None-begun_test.ensures.none rows p t a
    (at_this rows c.args.number c.in-Some.row.now (IsBegunRow rows p t a) c.in-Some.ensures.some at))

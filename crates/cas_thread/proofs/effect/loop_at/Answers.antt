use Rattle.std.proofs.Common.{ap, ◌∙◌}
use Rattle.cas_step.specs.Continuation.{chooses}
use Rattle.cas_eval.specs.Answer.{answer, eval_state, eval_context}
use Rattle.cas_thread.specs.Continuations.{IsLoopRow}
use Rattle.cas_thread.proofs.Reading.{at_this}
use Rattle.cas_thread.proofs.effect.loop_at.Goals as goal

pub returns-in-Some-loop_test : goal.returns-in-Some-loop_test
returns-in-Some-loop_test c = λ p t u a some others at.
    let rows = c.args.rows.now in
    let r = eval_state c.args.context.now in
    let is = c.in-Some-loop_test.ensures.some rows p t u a
    (at_this rows c.args.number c.in-Some.row.now (IsLoopRow rows p t u a) c.in-Some.ensures.some at) in
    c.tested_if.ensures some others ∙ ap (λ x. answer r (chooses (eval_context r) x some others)) is

pub returns-in-None-loop_test : goal.returns-in-None-loop_test
returns-in-None-loop_test c = λ p t u a some others at.
    let rows = c.args.rows.now in
    absurd (c.in-None-loop_test.ensures.none rows p t u a
    (at_this rows c.args.number c.in-Some.row.now (IsLoopRow rows p t u a) c.in-Some.ensures.some at))

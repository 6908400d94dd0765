use Rattle.std.proofs.Common.{reverse, ◌∷◌, ap, ◌∙◌}
use Rattle.cas_eval.specs.Answer.{eval_state}
use Rattle.cas_thread.proofs.Firsts.{begin_step, begun_step, loop_step, next_step}
use Rattle.cas_thread.proofs.effect.first_step.Goals as goal

pub returns-in-Begin : goal.returns-in-Begin
returns-in-Begin c =
    let some = c.in-Some.ensures.some in
    begin_step (eval_state c.args.context.now) c.args.rows.now c.args.ret c.in-Begin.number some.0
    (reverse c.args.cont.now) c.first_at.result
    (some.1 ∙ ap (λ it. it ∷ some.0) c.in-Begin.is) c.first_at.ensures

pub returns-in-Begun : goal.returns-in-Begun
returns-in-Begun c =
    let some = c.in-Some.ensures.some in
    rw c.does.ensures (begun_step (eval_state c.args.context.now) c.args.rows.now c.args.ret c.in-Begun.number some.0
    (reverse c.args.cont.now) c.begun_at.result
    (some.1 ∙ ap (λ it. it ∷ some.0) c.in-Begun.is) c.begun_at.ensures)

pub returns-in-Loop : goal.returns-in-Loop
returns-in-Loop c =
    let some = c.in-Some.ensures.some in
    rw c.does-in-Loop.ensures (loop_step (eval_state c.args.context.now) c.args.rows.now c.args.ret c.in-Loop.number
    some.0 (reverse c.args.cont.now) c.loop_at.result
    (some.1 ∙ ap (λ it. it ∷ some.0) c.in-Loop.is) c.loop_at.ensures)

pub returns-in-Next : goal.returns-in-Next
returns-in-Next c =
    let some = c.in-Some.ensures.some in
    next_step (eval_state c.args.context.now) c.args.rows.now c.args.ret c.in-Next.number some.0
    (reverse c.args.cont.now) c.next_at.result
    (some.1 ∙ ap (λ it. it ∷ some.0) c.in-Next.is) c.next_at.ensures

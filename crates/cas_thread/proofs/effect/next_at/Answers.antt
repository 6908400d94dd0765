use Rattle.std.proofs.Common.{subst}
use Rattle.cas_eval.specs.Answer.{eval_state}
use Rattle.cas_thread.specs.Continuations.{IsPart}
use Rattle.cas_thread.proofs.Firsts.{next_present, next_absent}
use Rattle.cas_thread.proofs.effect.next_at.Goals as goal

pub returns-in-Some-Some : goal.returns-in-Some-Some
returns-in-Some-Some c = λ p u cont ret at.
    let rows = c.args.rows.now in
    let part = subst (IsPart rows u) c.in-Some-Some.field-0-is (c.in-Some-Some.ensures.some p u at) in
    next_present (eval_state c.args.context.now) rows p ret c.in-Some-Some.next c.first_at.result c.first_at.ensures u
    cont part

pub returns-in-Some-None : goal.returns-in-Some-None
returns-in-Some-None c = λ p u cont ret at.
    let rows = c.args.rows.now in
    let part = subst (IsPart rows u) c.in-Some-None.field-0-is (c.in-Some-None.ensures.some p u at) in
    next_absent (eval_state c.args.context.now) rows p ret u cont part

pub returns-in-None : goal.returns-in-None
returns-in-None c = λ p u cont ret at. absurd (c.in-None.ensures.none p u at)

use Rattle.cas_thread.specs.Continuations.{IsNextRow}
use Rattle.cas_thread.proofs.Reading.{at_this, if_none}
use Rattle.cas_thread.proofs.control.next_part.Goals as goal

pub returns-in_err-next-clause-none : goal.returns-in_err-next-clause-none
returns-in_err-next-clause-none c = if_none c.from_residual-in_err-next.result _ (λ p u at.
    let rows = c.args.rows.now in
    c.in_err-next.ensures.no_next rows p u (at_this rows c.args.number c.in_ok-row_at.field-0.now (IsNextRow rows p u)
    c.in_ok-row_at.ensures.some at))

pub returns-clause-some : goal.returns-clause-some
returns-clause-some c = λ p u at.
    let rows = c.args.rows.now in
    c.in_ok-next.ensures.next rows p u (at_this rows c.args.number c.in_ok-row_at.field-0.now (IsNextRow rows p u)
    c.in_ok-row_at.ensures.some at)

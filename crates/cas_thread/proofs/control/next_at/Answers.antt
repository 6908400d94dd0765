use Rattle.std.proofs.Common.{reverse}
use Rattle.cas_thread.specs.Continuations.{IsNextRow}
use Rattle.cas_thread.proofs.Reading.{at_this, next_none}
use Rattle.cas_thread.proofs.control.next_at.Goals as goal

pub returns-in-Some-None-default-clause-shows : goal.returns-in-Some-None-default-clause-shows
returns-in-Some-None-default-clause-shows c = λ p u it at shows.
    let rows = c.args.rows.now in
    let row = at_this rows c.args.number c.in-Some.row.now (IsNextRow rows p u) c.in-Some.ensures.some at in
    let part = c.in-Some-None-default.ensures.next rows p u row in
    next_none rows (reverse c.args.cont.now.items) p u c.in-Some-None-default.field-0-0 c.args.holds it
    c.in-Some-None-default.field-0-0-is part shows

pub returns-in-None-clause-shows : goal.returns-in-None-clause-shows
returns-in-None-clause-shows c = λ p u it at shows.
    let rows = c.args.rows.now in
    let row = at_this rows c.args.number c.in-Some.row.now (IsNextRow rows p u) c.in-Some.ensures.some at in
    absurd (c.in-None.ensures.no_next rows p u row)

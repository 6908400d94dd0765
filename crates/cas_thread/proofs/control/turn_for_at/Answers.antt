use Rattle.cas_thread.specs.Continuations.{IsLoopRow}
use Rattle.cas_thread.proofs.Reading.{at_this, loop_next}
use Rattle.cas_thread.proofs.control.turn_for_at.Goals as goal

pub returns-in-Some-turned_for-clause-shows : goal.returns-in-Some-turned_for-clause-shows
returns-in-Some-turned_for-clause-shows c = λ p t u a it at shows.
    let rows = c.args.rows.now in
    let row = at_this rows c.args.number c.in-Some.row.now (IsLoopRow rows p t u a) c.in-Some.ensures.some at in
    c.turn_for.ensures.shows p t u a it at (loop_next rows c.args.number p t u a at)
    (c.in-Some-turned_for.ensures.body rows p t u a row) shows

pub returns-in_default-turned_for-clause-shows : goal.returns-in_default-turned_for-clause-shows
returns-in_default-turned_for-clause-shows c = λ p t u a it at shows.
    let rows = c.args.rows.now in
    let row = at_this rows c.args.number c.in-Some.row.now (IsLoopRow rows p t u a) c.in-Some.ensures.some at in
    absurd (c.in_default-turned_for.ensures.no_body rows p t u a row)

use Rattle.cas_thread.specs.Continuations.{IsBegunRow}
use Rattle.cas_thread.proofs.Reading.{at_this}
use Rattle.cas_thread.proofs.control.turn_at.Goals as goal

pub returns-in-Some-turned-clause-shows : goal.returns-in-Some-turned-clause-shows
returns-in-Some-turned-clause-shows c = λ p t a it at shows.
    let rows = c.args.rows.now in
    let row = at_this rows c.args.number c.in-Some.row.now (IsBegunRow rows p t a) c.in-Some.ensures.some at in
    c.turn.ensures.shows p t a it at (c.in-Some-turned.ensures.some rows p t a row) shows

pub returns-in_default-turned-clause-shows : goal.returns-in_default-turned-clause-shows
returns-in_default-turned-clause-shows c = λ p t a it at shows.
    let rows = c.args.rows.now in
    let row = at_this rows c.args.number c.in-Some.row.now (IsBegunRow rows p t a) c.in-Some.ensures.some at in
    absurd (c.in_default-turned.ensures.none rows p t a row)

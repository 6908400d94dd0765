use Rattle.cas_typed.specs.Numbered.{IsRow}
use Rattle.cas_thread.proofs.Reading.{at_this}
use Rattle.cas_thread.proofs.effect.first_at.Goals as goal

pub returns-in-Some : goal.returns-in-Some
returns-in-Some c = λ a cont at.
    let rows = c.args.rows.now in
    c.first_of.ensures rows c.args.number a cont (at_this rows c.args.number c.in-Some.row.now
    (IsRow rows c.args.number a) c.in-Some.ensures.some at)

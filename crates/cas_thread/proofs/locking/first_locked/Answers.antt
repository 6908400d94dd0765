use Rattle.cas_thread.proofs.First_statement.{row_locks}
use Rattle.cas_thread.proofs.locking.first_locked.Goals as goal

pub returns : goal.returns
returns c = λ it shows.
    let row = c.in_ok-first_row in
    row_locks c.args.rows.now row.field-0.now c.locked_in.result c.locked_in.ensures it (row.ensures.some it shows)

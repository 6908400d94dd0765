use Rattle.std.proofs.Common.{reverse}
use Rattle.cas_thread.proofs.Called.{first_some, first_none}
use Rattle.cas_thread.proofs.call.first_call.Goals as goal

pub returns-clause-some : goal.returns-clause-some
returns-clause-some c =
    let row = c.in_ok-first_row in
    first_some c.args.rows.now row.field-0.now (reverse c.args.cont.now) row.ensures.some c.called_in.result
    c.called_in.ensures.some

pub returns-clause-none : goal.returns-clause-none
returns-clause-none c =
    let row = c.in_ok-first_row in
    first_none c.args.rows.now row.field-0.now (reverse c.args.cont.now) row.ensures.some c.called_in.result
    c.called_in.ensures.none

use Rattle.std.proofs.Common.{arith, [], length, sym, ap, subst, reverse, vec_capacity}
use Rattle.cas_step.specs.Continuation.{begin_all}
use Rattle.cas_thread.specs.Continuations.{AreAt, IsContinuation}
use Rattle.cas_thread.proofs.Beginning.{rows_at}
use Rattle.cas_thread.proofs.Rooms.{all_fit}
use Rattle.cas_thread.proofs.call.new_frame.Goals as goal

pub returns-clause-cont : goal.returns-clause-cont
returns-clause-cont c = λ it is.
    let f = c.args.function.now in
    let rows = c.as_slice-rows.ensures in
    let at : AreAt c.as_slice-rows.result.now it.body c.as_slice-parts.result.now =
    subst (λ ns. AreAt c.as_slice-rows.result.now it.body ns) (sym c.as_slice-parts.ensures)
    (subst (λ rs. AreAt rs it.body f.body) (sym rows) (rows_at f.rows 0 it.body f.body is.rows)) in
    let none : IsContinuation c.as_slice-rows.result.now (reverse c.in_ok-cont.cont.items) [] =
    rw c.in_ok-cont.ensures.items tt in
    subst (λ rs. IsContinuation rs (reverse c.begin_each.new.cont.items) (begin_all it.body [])) rows
    (c.begin_each.ensures.shows it.body [] at none)

pub returns-clause-room : goal.returns-clause-room
returns-clause-room c = λ it is.
    let size = ap length c.as_slice-rows.ensures in
    all_fit (vec_capacity c.begin_each.new.cont) it.body []
    (omega (arith, size, is.size, c.begin_each.ensures.room, c.in_ok-cont.ensures.capacity)) tt

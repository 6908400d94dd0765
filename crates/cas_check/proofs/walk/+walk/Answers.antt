use Rattle.std.proofs.Common.{◌∙◌, ◌≡◌, Option, Some, None, ap, refl, sym, subst}
use Rattle.cas_own.specs.Flow.{Flow, on, flow, flow_all, flow_part, with_set}
use Rattle.cas_own.specs.Locks.{Locks}
use Rattle.cas_check.specs.View.{Walked, onward, optional_head, set_at, turns}
use Rattle.cas_check.proofs.Rows_walked.{walked_err, passes_err, passes_on, while_is, do_is, for_is, for_from, one_further}
use Rattle.cas_typed.specs.Numbered.{IsRow, optional_expr_tree}
use Rattle.cas_typed.specs.Resolved.{TypedStmtTree}
use Rattle.cas_typed.specs.declared.rows.StmtRowForm.{StmtRowForm}
use Rattle.cas_check.proofs.walk.+walk.Goals as goal

pub do_loop-returns-in_err-turn : goal.do_loop-returns-in_err-turn
do_loop-returns-in_err-turn t c = λ h a at.
    walked_err c.args.set.now c.from_residual.result c.in_err-turn.field-0.0 _ _ c.from_residual.ensures.1 refl
    (c.in_err-turn.ensures a _ at)

pub do_loop-returns-in_err-check_expr : goal.do_loop-returns-in_err-check_expr
do_loop-returns-in_err-check_expr t c = λ h a at.
    walked_err c.args.set.now c.from_residual-in_err-check_expr.result c.in_err-check_expr.field-0.0 _ _
    c.from_residual-in_err-check_expr.ensures.1
    (c.in_ok-turn.ensures a _ at) (c.in_err-check_expr.ensures (on (Some c.args.set.now)))

pub do_loop-returns : goal.do_loop-returns
do_loop-returns t c = λ h a at. c.in_ok-turn.ensures a _ at ∙ c.in_ok-check_expr.ensures (on (Some c.args.set.now))

pub turns-returns-in_err-turn : goal.turns-returns-in_err-turn
turns-returns-in_err-turn t c = λ m u a next part at.
    passes_err c.from_residual-in_err-turn.result next c.in_err-turn.field-0.0 _ _ c.from_residual-in_err-turn.ensures.1
    (c.in_ok-check_optional.ensures _) (c.in_err-turn.ensures a _ at)

pub turns-returns : goal.turns-returns
turns-returns t c = λ m u a next part at.
    passes_on c.last.result next _ _ (c.in_ok-check_optional.ensures _ ∙ c.in_ok-turn.ensures a _ at)
    (c.last.ensures m u next part)

pub while_loop-returns-in_err-turn : goal.while_loop-returns-in_err-turn
while_loop-returns-in_err-turn t c = λ h a at.
    walked_err c.args.set.now c.from_residual-in_err-turn.result c.in_err-turn.field-0.0 _ _
    c.from_residual-in_err-turn.ensures.1
    (c.in_ok-check_expr.ensures _) (c.in_err-turn.ensures a _ at)

pub while_loop-returns : goal.while_loop-returns
while_loop-returns t c = λ h a at. c.in_ok-check_expr.ensures _ ∙ c.in_ok-turn.ensures a _ at

pub walk_row-returns-in-While : goal.walk_row-returns-in-While
walk_row-returns-in-While t c = λ a w.
    let rows = c.args.body.rows.now in
    let is = while_is rows c.args.n c.args.row.now.place _ _ a
    (subst (λ (form : StmtRowForm). IsRow rows c.args.n a c.args.row.now.place form) c.in-While.is w) in
    subst (λ (b : TypedStmtTree). Walked c.args.set.now c.while_loop.result
    (flow c.args.body.table.now c.args.body.own.now (optional_head c.args.head) b c.args.set.now)) (sym is.1)
    (c.while_loop.ensures (optional_head c.args.head) is.0 is.2)

pub walk_row-returns-in-Do : goal.walk_row-returns-in-Do
walk_row-returns-in-Do t c = λ a w.
    let rows = c.args.body.rows.now in
    let is = do_is rows c.args.n c.args.row.now.place _ _ a
    (subst (λ (form : StmtRowForm). IsRow rows c.args.n a c.args.row.now.place form) c.in-Do.is w) in
    subst (λ (b : TypedStmtTree). Walked c.args.set.now c.do_loop.result
    (flow c.args.body.table.now c.args.body.own.now (optional_head c.args.head) b c.args.set.now)) (sym is.1)
    (c.do_loop.ensures (optional_head c.args.head) is.0 is.2)

pub walk_row-returns-in-For : goal.walk_row-returns-in-For
walk_row-returns-in-For t c = λ a w.
    let rows = c.args.body.rows.now in
    let is = for_is rows c.args.n c.args.row.now.place _ _ _ _ a
    (subst (λ (form : StmtRowForm). IsRow rows c.args.n a c.args.row.now.place form) c.in-For.is w) in
    subst (λ (b : TypedStmtTree). Walked c.args.set.now c.for_loop.result
    (flow c.args.body.table.now c.args.body.own.now (optional_head c.args.head) b c.args.set.now)) (sym is.3)
    (c.for_loop.ensures (optional_head c.args.head) _ _ is.0 is.1 is.2 is.4 is.5 is.6)

pub for_loop-returns-in_err-turns_from : goal.for_loop-returns-in_err-turns_from
for_loop-returns-in_err-turns_from t c = λ h k m i u a first after at.
    let body = c.args.body in
    let next : Locks → Flow = λ r. turns body.table.now body.own.now c.args.place
    (optional_expr_tree c.args.condition.now) u a r (on (Some r)) in
    walked_err c.args.set.now c.from_residual-in_err-turns_from.result c.in_err-turns_from.field-0.0 _
    (with_set (set_at c.locks.result) next) c.from_residual-in_err-turns_from.ensures.1
    (for_from next (flow_part body.table.now body.own.now None i c.args.set.now)
    (onward c.args.set.now c.in_ok-onward.onward) (set_at c.locks.result) (c.in_ok-onward.ensures k i first)
    c.locks.ensures)
    (c.in_err-turns_from.ensures m u a after at)

pub for_loop-returns : goal.for_loop-returns
for_loop-returns t c = λ h k m i u a first after at.
    let body = c.args.body in
    let next : Locks → Flow = λ r. turns body.table.now body.own.now c.args.place
    (optional_expr_tree c.args.condition.now) u a r (on (Some r)) in
    for_from next (flow_part body.table.now body.own.now None i c.args.set.now)
    (onward c.args.set.now c.in_ok-onward.onward) (set_at c.locks.result) (c.in_ok-onward.ensures k i first)
    c.locks.ensures
    ∙ c.in_ok-turns_from.ensures m u a after at ∙ ap (λ (o : Option Locks). on o) c.locks.ensures

pub walk_all-loop-part-preserved : goal.walk_all-loop-part-preserved
walk_all-loop-part-preserved t c = λ m bs are.
    let body = c.args.body in
    let head = optional_head c.args.head in
    let set = c.args.set.now in
    let now = c.in-Some.now.now in
    let p = c.loop-part.invariant m bs are in
    let going : onward set c.loop-part.onward ≡ Some now = sym c.locks.ensures ∙ ap set_at c.in-Some.is in
    let q = one_further body.rows.now body.table.now body.own.now head c.args.parts.now c.loop-part.part-index p.0 p.1
    now (onward now c.in_ok-next-in-Some.next) c.loop-part-test.true p.2
    (λ b at. c.in_ok-next-in-Some.ensures b at) in (
      q.0,
      q.1,
      q.2,
      p.3 ∙ ap (flow_all body.table.now body.own.now head p.1) going ∙ q.3
          ∙ ap (flow_all body.table.now body.own.now head q.1) (sym (c.then-onward.ensures set now going)),
    )

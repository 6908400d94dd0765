use Rattle.std.proofs.Common.{◌≡◌, ◌+◌, ◌-◌, ◌*◌, ℕ, length, drop, Some}
use Rattle.cas_own.specs.Flow.{flow_all}
use Rattle.cas_check.specs.View.{onward, optional_head}
use Rattle.cas_typed.specs.Numbered.{AreRows}
use Rattle.cas_typed.specs.Resolved.{TypedStmtList}
use Rattle.cas_check.proofs.walk.+walk.Given as goal

abbrev pub decreases-walk : goal.decreases-walk
decreases-walk l = 8 * (length l.body.rows.now - l.n) + 6

abbrev pub decreases-walk_row : goal.decreases-walk_row
decreases-walk_row l = 8 * (length l.body.rows.now - l.n) + 5

abbrev pub decreases-walk_part : goal.decreases-walk_part
decreases-walk_part l = 8 * (length l.body.rows.now - l.n)

abbrev pub decreases-walk_all : goal.decreases-walk_all
decreases-walk_all l = 8 * (length l.body.rows.now - l.least) + 7

abbrev pub decreases-branch : goal.decreases-branch
decreases-branch l = 8 * (length l.body.rows.now - l.n) + 3

abbrev pub decreases-turn : goal.decreases-turn
decreases-turn l = 8 * (length l.body.rows.now - l.n) + 1

abbrev pub decreases-last : goal.decreases-last
decreases-last l = 8 * (length l.body.rows.now - l.n) + 1

abbrev pub decreases-while_loop : goal.decreases-while_loop
decreases-while_loop l = 8 * (length l.body.rows.now - l.n) + 3

abbrev pub decreases-do_loop : goal.decreases-do_loop
decreases-do_loop l = 8 * (length l.body.rows.now - l.n) + 3

abbrev pub decreases-turns : goal.decreases-turns
decreases-turns l = 8 * (length l.body.rows.now - l.n) + 2

abbrev pub decreases-for_loop : goal.decreases-for_loop
decreases-for_loop l = 8 * (length l.body.rows.now - l.n) + 4

abbrev pub decreases-turns_from : goal.decreases-turns_from
decreases-turns_from l = 8 * (length l.body.rows.now - l.n) + 3

abbrev pub invariant-walk_all-loop-part : goal.invariant-walk_all-loop-part
invariant-walk_all-loop-part l = (m : ℕ) (bs : TypedStmtList) → AreRows l.body.rows.now m bs l.parts →
    (k : ℕ) × (rest : TypedStmtList) × AreRows l.body.rows.now k rest (drop l.part-index l.parts)
    × (flow_all l.body.table.now l.body.own.now (optional_head l.head) bs
    (Some l.set) ≡ flow_all l.body.table.now l.body.own.now (optional_head l.head) rest (onward l.set l.onward))

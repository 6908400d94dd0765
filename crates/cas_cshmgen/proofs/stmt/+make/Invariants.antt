use Rattle.std.proofs.Common.{◌≡◌, ◌+◌, ◌-◌, ◌*◌, ℕ, length, drop}
use Rattle.cas_mid.specs.Code.{csharp_list}
use Rattle.cas_typed.specs.Numbered.{AreRows}
use Rattle.cas_typed.specs.Resolved.{TypedStmtList}
use Rattle.cas_cshmgen.specs.Makes.{Csharps, made_stmts}
use Rattle.cas_cshmgen.proofs.stmt.+make.Given as goal

abbrev pub decreases-make_stmt : goal.decreases-make_stmt
decreases-make_stmt l = 8 * (length l.body.rows.now - l.n) + 6

abbrev pub decreases-make_row : goal.decreases-make_row
decreases-make_row l = 8 * (length l.body.rows.now - l.n) + 5

abbrev pub decreases-make_part : goal.decreases-make_part
decreases-make_part l = 8 * (length l.body.rows.now - l.n)

abbrev pub decreases-make_all : goal.decreases-make_all
decreases-make_all l = 8 * (length l.body.rows.now - l.least) + 7

abbrev pub decreases-branch : goal.decreases-branch
decreases-branch l = 8 * (length l.body.rows.now - l.n) + 3

abbrev pub decreases-turn : goal.decreases-turn
decreases-turn l = 8 * (length l.body.rows.now - l.n) + 1

abbrev pub decreases-make_while : goal.decreases-make_while
decreases-make_while l = 8 * (length l.body.rows.now - l.n) + 3

abbrev pub decreases-make_do : goal.decreases-make_do
decreases-make_do l = 8 * (length l.body.rows.now - l.n) + 3

abbrev pub decreases-make_for : goal.decreases-make_for
decreases-make_for l = 8 * (length l.body.rows.now - l.n) + 4

abbrev pub invariant-make_all-loop-part : goal.invariant-make_all-loop-part
invariant-make_all-loop-part l = (m : ℕ) (bs : TypedStmtList) → AreRows l.body.rows.now m bs l.parts →
    (k : ℕ) × (rest : TypedStmtList) × AreRows l.body.rows.now k rest (drop l.part-index l.parts)
    × ((after : Csharps) → csharp_list l.all.items (made_stmts l.body.decls.now l.body.result rest after)
    ≡ made_stmts l.body.decls.now l.body.result bs after)

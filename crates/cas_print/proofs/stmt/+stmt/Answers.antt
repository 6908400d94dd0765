use Rattle.std.proofs.Common.{◌∙◌, refl, ap}
use Rattle.std.proofs.lemmas.Result.{IfOk-equal}
use Rattle.cas_print.specs.Page.{followed_by}
use Rattle.cas_print.proofs.Trees.{printed-block, printed-for}
use Rattle.cas_print.proofs.stmt.+stmt.Goals as goal

pub stmt-returns-in-Declare : goal.stmt-returns-in-Declare
stmt-returns-in-Declare t c rest = IfOk-equal _ _ _ _ (c.simple.ensures rest) (rw c.in-Declare.is refl)

pub stmt-returns-in-Assign : goal.stmt-returns-in-Assign
stmt-returns-in-Assign t c rest = IfOk-equal _ _ _ _ (c.simple-in-Assign.ensures rest) (rw c.in-Assign.is refl)

pub stmt-returns-in-Call : goal.stmt-returns-in-Call
stmt-returns-in-Call t c rest = IfOk-equal _ _ _ _ (c.simple-in-Call.ensures rest) (rw c.in-Call.is refl)

pub stmt-returns-in-Block : goal.stmt-returns-in-Block
stmt-returns-in-Block t c rest =
    IfOk-equal _ _ _ _ (c.block.ensures rest)
    (ap (followed_by c.args.page.now)
    (printed-block c.args.stmt.now c.in-Block.inner c.deref.result.now rest c.in-Block.is c.deref.ensures.value))

pub stmt-returns-in_ok-for_head-in-For : goal.stmt-returns-in_ok-for_head-in-For
stmt-returns-in_ok-for_head-in-For t c rest =
    let same = c.deref-in-For.ensures in
    IfOk-equal _ _ _ _ (c.stmt-in-For.ensures rest)
    (c.in_ok-for_head-in-For.ensures _
    ∙ ap (followed_by c.args.page.now)
    (printed-for c.args.stmt.now c.in-For.first c.in-For.condition c.in-For.after c.in-For.body _ rest c.in-For.is
    same))

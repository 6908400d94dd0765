use Rattle.cas_syntax.specs.Tree.{stmt_trees}
use Rattle.cas_typed.specs.Counts.{nodes_of_stmts}
use Rattle.cas_type.proofs.Block_nodes.{block_nodes, counted_behind}
use Rattle.cas_type.proofs.counts.+count.Goals as goal

pub count_stmt-returns-in-Block : goal.count_stmt-returns-in-Block
count_stmt-returns-in-Block t c =
    rw (block_nodes c.args.stmt.now c.in-Block.inner c.deref.result.now c.in-Block.is c.deref.ensures.value)
    (counted_behind c.args.before c.saturating_add-here.result (nodes_of_stmts (stmt_trees c.deref.result.now))
    c.count_stmts.result c.saturating_add-here.ensures c.count_stmts.ensures)

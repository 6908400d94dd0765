use Rattle.std.proofs.Common.{◌≡◌, ◌≤◌, ◌+◌, ◌*◌, length, List}
use Rattle.cas_syntax.specs.Tree.{stmt_trees, no_more}
use Rattle.cas_parse.specs.Frames.{Frame, InList}
use Rattle.cas_read_expr.specs.Follow.{verdict}
use Rattle.cas_read_stmt.proofs.stmt.+stmt.Given as goal

abbrev pub decreases-stmt : goal.decreases-stmt
decreases-stmt l = 6 * length l.tokens.now + 1

abbrev pub decreases-inner : goal.decreases-inner
decreases-inner l = 6 * length l.tokens.now + 2

abbrev pub decreases-started : goal.decreases-started
decreases-started l = 6 * length l.tokens.now

abbrev pub decreases-list : goal.decreases-list
decreases-list l = 6 * length l.tokens.now + 4

abbrev pub decreases-listed : goal.decreases-listed
decreases-listed l = 6 * length l.tokens.now + 2

abbrev pub decreases-conditional : goal.decreases-conditional
decreases-conditional l = 6 * length l.tokens.now + 2

abbrev pub decreases-otherwise : goal.decreases-otherwise
decreases-otherwise l = 6 * length l.tokens.now + 2

abbrev pub decreases-while_loop : goal.decreases-while_loop
decreases-while_loop l = 6 * length l.tokens.now + 2

abbrev pub decreases-do_loop : goal.decreases-do_loop
decreases-do_loop l = 6 * length l.tokens.now + 3

abbrev pub decreases-for_loop : goal.decreases-for_loop
decreases-for_loop l = 6 * length l.tokens.now + 2

abbrev pub invariant-list-stmts : goal.invariant-list-stmts
invariant-list-stmts l = record {
  follows : (st : List Frame) → verdict l.tokens (InList l.around no_more) st ≡ verdict l.rest
      (InList l.around (stmt_trees l.all.items)) st;
  shorter : length l.rest ≤ length l.tokens;
}

abbrev pub decreases-list-stmts : goal.decreases-list-stmts
decreases-list-stmts l = length l.rest

use Rattle.std.proofs.Common.{◌≡◌, ◌∷◌, ◌∙◌, sym, true, false, arith}
use Rattle.std.proofs.lemmas.Grind.{common_steps}
use Rattle.cas_syntax.specs.Tree.{stmt_trees, no_more}
use Rattle.cas_parse.specs.Frames.{InList, SimpleStmt}
use Rattle.cas_read_expr.specs.Follow.{verdict, is_closing_brace}
use Rattle.cas_read_stmt.specs.FollowStmts.{begins_listed, begins_simple, begins_stmt, starts_simple}
use Rattle.cas_read_stmt.proofs.StmtSteps.{goes_on_in_list, starts_as_simple}
use Rattle.cas_read_stmt.proofs.stmt.+stmt.Goals as goal

pub list-returns-in-Err-clause-follows : goal.list-returns-in-Err-clause-follows
list-returns-in-Err-clause-follows t c = λ st.
    let split : c.stmts.rest.now ≡ c.in_ok-token.token.now ∷ c.in_ok-token.behind.now = grind (arith, common_steps) in
    let open_ : is_closing_brace c.in_ok-token.token.now.kind ≡ false = sym c.closes_block.ensures
    ∙ c.if-closes_block.false in
    let e : verdict c.args.tokens.now (InList c.args.around no_more) st ≡ begins_listed c.stmts.rest.now c.args.around
    (stmt_trees c.stmts.all.items) st =
    c.stmts.invariant.follows st
    ∙ goes_on_in_list c.stmts.rest.now c.in_ok-token.token.now c.in_ok-token.behind.now c.args.around
    (stmt_trees c.stmts.all.items) st split open_ in
    rw e (c.in-Err.ensures.follows st)

pub started-returns-then-starts_simple-clause-follows : goal.started-returns-then-starts_simple-clause-follows
started-returns-then-starts_simple-clause-follows t c = λ st.
    let split : c.args.tokens.now ≡ c.in_ok-token.token.now ∷ c.in_ok-token.rest.now = grind (arith, common_steps) in
    let simple : starts_simple c.in_ok-token.token.now.kind ≡ true = sym c.starts_simple.ensures
    ∙ c.if-starts_simple.true in
    let e : begins_stmt c.args.tokens.now c.args.around st ≡ begins_simple c.args.tokens.now (SimpleStmt ∷ st) =
    starts_as_simple c.args.tokens.now c.in_ok-token.token.now c.in_ok-token.rest.now c.args.around st split simple in
    rw e (c.simple_stmt.ensures.follows st)

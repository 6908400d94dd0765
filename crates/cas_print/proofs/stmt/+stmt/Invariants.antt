-- The statements that are still to come follow what is written.
use Rattle.std.proofs.Common.{◌≡◌, List, drop}
use Rattle.cas_syntax.specs.Tree.{stmt_trees}
use Rattle.cas_print.specs.Page.{followed_by}
use Rattle.cas_print.specs.Pieces.{Piece}
use Rattle.cas_print.specs.Statements.{printed_stmts}
use Rattle.cas_print.proofs.stmt.+stmt.Given as goal

abbrev pub invariant-stmts-loop-inner : goal.invariant-stmts-loop-inner
invariant-stmts-loop-inner l = (rest : List Piece) → followed_by l.page
    (printed_stmts (stmt_trees (drop l.inner-index l.stmts)) rest)
    ≡ followed_by l.initial.page (printed_stmts (stmt_trees l.stmts) rest)

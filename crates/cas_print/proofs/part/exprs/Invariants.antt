-- What is still to come behind commas follows what is written.
use Rattle.std.proofs.Common.{◌≡◌, List, map, length}
use Rattle.cas_syntax.specs.Tree.{expr_tree}
use Rattle.cas_print.specs.Page.{followed_by}
use Rattle.cas_print.specs.Pieces.{Piece}
use Rattle.cas_print.specs.Expressions.{behind_commas, printed_expr}
use Rattle.cas_print.proofs.part.exprs.Given as goal

abbrev pub invariant-loop-next : goal.invariant-loop-next
invariant-loop-next l = (rest : List Piece) → followed_by l.page
    (behind_commas printed_expr (map expr_tree l.others) rest)
    ≡ followed_by l.initial.page (behind_commas printed_expr (map expr_tree l.initial.others) rest)

abbrev pub decreases-loop-next : goal.decreases-loop-next
decreases-loop-next l = length l.others

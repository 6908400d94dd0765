use Rattle.std.proofs.Common.{◌≡◌, ◌<◌, ◌+◌, ◌*◌, length, List}
use Rattle.cas_syntax.specs.Tree.{expr_tree}
use Rattle.cas_parse.specs.Frames.{Frame, WantExpr, HaveExpr}
use Rattle.cas_read_expr.specs.Follow.{verdict}
use Rattle.cas_read_expr.proofs.expr.+expr.Given as goal

abbrev pub decreases-expr : goal.decreases-expr
decreases-expr l = 4 * length l.tokens.now + 2

abbrev pub decreases-operand : goal.decreases-operand
decreases-operand l = 4 * length l.tokens.now + 1

abbrev pub decreases-prefixed : goal.decreases-prefixed
decreases-prefixed l = 4 * length l.tokens.now + 3

abbrev pub decreases-named : goal.decreases-named
decreases-named l = 4 * length l.tokens.now

abbrev pub decreases-element : goal.decreases-element
decreases-element l = 4 * length l.tokens.now + 3

abbrev pub decreases-opened : goal.decreases-opened
decreases-opened l = 4 * length l.tokens.now + 4

abbrev pub decreases-cast : goal.decreases-cast
decreases-cast l = 4 * length l.tokens.now + 3

abbrev pub decreases-address : goal.decreases-address
decreases-address l = 4 * length l.tokens.now

abbrev pub decreases-combined : goal.decreases-combined
decreases-combined l = 4 * length l.tokens.now + 5

abbrev pub decreases-chosen : goal.decreases-chosen
decreases-chosen l = 4 * length l.tokens.now + 4

abbrev pub decreases-branches : goal.decreases-branches
decreases-branches l = 4 * length l.tokens.now + 3

abbrev pub invariant-expr-loop-between : goal.invariant-expr-loop-between
invariant-expr-loop-between l = record {
  follows : (st : List Frame) → verdict l.tokens (WantExpr l.fn.used l.least) st ≡ verdict l.rest
      (HaveExpr l.used l.least (expr_tree l.left)) st;
  shorter : length l.rest < length l.tokens;
}

abbrev pub decreases-expr-loop-between : goal.decreases-expr-loop-between
decreases-expr-loop-between l = length l.rest

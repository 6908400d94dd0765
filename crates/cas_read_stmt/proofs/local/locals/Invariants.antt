use Rattle.std.proofs.Common.{◌≡◌, ◌≤◌, ◌∷◌, ℕ, length, List}
use Rattle.cas_syntax.specs.Tree.{stmt_trees}
use Rattle.cas_parse.specs.Frames.{Frame, WantLocal, Locals}
use Rattle.cas_read_expr.specs.Follow.{verdict}
use Rattle.cas_read_stmt.proofs.local.locals.Given as goal

abbrev pub invariant-locals : goal.invariant-locals
invariant-locals l = record {
  follows : (n : ℕ) (st : List Frame) → verdict l.tokens (WantLocal l.kind)
      (Locals n l.kind (stmt_trees l.initial.all.items) ∷ st) ≡ verdict l.rest (WantLocal l.kind)
      (Locals n l.kind (stmt_trees l.all.items) ∷ st);
  shorter : length l.rest ≤ length l.tokens;
}

abbrev pub decreases-locals : goal.decreases-locals
decreases-locals l = length l.rest

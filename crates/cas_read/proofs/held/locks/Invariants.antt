use Rattle.std.proofs.Common.{◌≡◌, ◌≤◌, [], length, List, Option}
use Rattle.cas_base.specs.declared.kind.Ty.{Ty}
use Rattle.cas_syntax.specs.declared.tree.Ident.{Ident}
use Rattle.cas_syntax.specs.Tree.{ItemTree}
use Rattle.cas_parse.specs.Frames.{Opening, WantHeld}
use Rattle.cas_read_expr.specs.Follow.{verdict}
use Rattle.cas_read.proofs.held.locks.Given as goal

abbrev pub invariant-locks : goal.invariant-locks
invariant-locks l = record {
  follows : (o : Opening) (tys : List Ty) (xs : List (Option Ident)) (items : List ItemTree) →
      verdict l.tokens (WantHeld o tys xs [] items) [] ≡ verdict l.rest (WantHeld o tys xs l.all.items items) [];
  shorter : length l.rest ≤ length l.tokens;
}

abbrev pub decreases-locks : goal.decreases-locks
decreases-locks l = length l.rest

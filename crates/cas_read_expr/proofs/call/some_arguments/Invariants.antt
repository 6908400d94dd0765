use Rattle.std.proofs.Common.{◌≡◌, ◌≤◌, ◌∷◌, [], length, map, List}
use Rattle.cas_syntax.specs.Tree.{expr_tree}
use Rattle.cas_parse.specs.Frames.{Frame, Caller, WantOutermost, Argument}
use Rattle.cas_read_expr.specs.Follow.{verdict}
use Rattle.cas_read_expr.proofs.call.some_arguments.Given as goal

abbrev pub invariant-loop-all : goal.invariant-loop-all
invariant-loop-all l = record {
  follows : (caller : Caller) (st : List Frame) → verdict l.tokens WantOutermost (Argument caller [] ∷ st)
      ≡ verdict l.rest WantOutermost (Argument caller (map expr_tree l.all.items) ∷ st);
  shorter : length l.rest ≤ length l.tokens;
}

abbrev pub decreases-loop-all : goal.decreases-loop-all
decreases-loop-all l = length l.rest

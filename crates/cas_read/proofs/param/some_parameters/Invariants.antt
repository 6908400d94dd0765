use Rattle.std.proofs.Common.{◌≡◌, ◌≤◌, [], length, List}
use Rattle.cas_syntax.specs.Tree.{ItemTree}
use Rattle.cas_parse.specs.Frames.{Opening, WantParameter}
use Rattle.cas_read_expr.specs.Follow.{verdict}
use Rattle.cas_read.proofs.param.some_parameters.Given as goal

abbrev pub invariant-parameters : goal.invariant-parameters
invariant-parameters l = record {
  follows : (o : Opening) (items : List ItemTree) → verdict l.tokens (WantParameter o [] [] items) [] ≡ verdict l.rest
      (WantParameter o l.types.items l.names.items items) [];
  shorter : length l.rest ≤ length l.tokens;
}

abbrev pub decreases-parameters : goal.decreases-parameters
decreases-parameters l = length l.rest

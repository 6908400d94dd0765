use Rattle.std.proofs.Common.{◌≡◌, ◌<◌, [], ℕ, Bool, length, List}
use Rattle.cas_syntax.specs.declared.tree.Ident.{Ident}
use Rattle.cas_syntax.specs.Tree.{ItemTree}
use Rattle.cas_parse.specs.Frames.{Sort, WantCells, HaveCells}
use Rattle.cas_read_expr.specs.Follow.{verdict}
use Rattle.cas_read.specs.FollowItems.{data_of}
use Rattle.cas_read.proofs.values.values.Given as goal

abbrev pub invariant-values : goal.invariant-values
invariant-values l = record {
  follows : (s : Sort) (d : Bool) (x : Ident) (n : ℕ) (items : List ItemTree) →
      verdict l.tokens (WantCells (data_of s d l.kind) x n [] items) [] ≡ verdict l.rest
      (HaveCells (data_of s d l.kind) x n l.all.items items) [];
  shorter : length l.rest < length l.tokens;
}

abbrev pub decreases-values : goal.decreases-values
decreases-values l = length l.rest

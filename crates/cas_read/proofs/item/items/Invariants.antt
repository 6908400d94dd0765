use Rattle.std.proofs.Common.{◌≡◌, [], length, map}
use Rattle.cas_syntax.specs.Tree.{item_tree}
use Rattle.cas_parse.specs.Frames.{InItems}
use Rattle.cas_read_expr.specs.Follow.{verdict}
use Rattle.cas_read.proofs.item.items.Given as goal

abbrev pub invariant-items : goal.invariant-items
invariant-items l = verdict l.tokens (InItems []) [] ≡ verdict l.rest (InItems (map item_tree l.all.items)) []

abbrev pub decreases-items : goal.decreases-items
decreases-items l = length l.rest

use Rattle.std.proofs.Common.{◌≡◌, ◌++◌, map, length}
use Rattle.cas_clight.specs.Units.{data_in}
use Rattle.cas_syntax.specs.Tree.{item_tree}
use Rattle.cas_cshmgen.proofs.unit.data.Given as goal

abbrev pub invariant-each : goal.invariant-each
invariant-each l = data_in (map item_tree l.items) ≡ l.all.items ++ data_in (map item_tree l.rest)

abbrev pub decreases-each : goal.decreases-each
decreases-each l = length l.rest

use Rattle.std.proofs.Common.{◌≡◌, ◌++◌, map, length}
use Rattle.cas_syntax.specs.Tree.{item_tree}
use Rattle.cas_typed.specs.Modules.{decl_of}
use Rattle.cas_check.proofs.items.symbols_of.Given as goal

abbrev pub invariant-each : goal.invariant-each
invariant-each l = l.symbols ++ map decl_of (map item_tree l.rest) ≡ map decl_of (map item_tree l.items)

abbrev pub decreases-each : goal.decreases-each
decreases-each l = length l.rest

use Rattle.std.proofs.Common.{◌≡◌, map}
use Rattle.cas_syntax.specs.Tree.{item_tree}
use Rattle.cas_typed.specs.Modules.{filled_item}
use Rattle.cas_type.proofs.module.filled_module.Given as goal

abbrev pub invariant-loop-item : goal.invariant-loop-item
invariant-loop-item l = map item_tree l.items.items ≡ map filled_item (map item_tree l.yielded)

use Rattle.std.proofs.Common.{List, drop, map}
use Rattle.cas_syntax.specs.Tree.{item_tree}
use Rattle.cas_type.proofs.Walk_lemmas.{IsWalked}
use Rattle.cas_typed.specs.Resolved.{TypedFunTree}
use Rattle.cas_type.proofs.module.walk_each.Given as goal

abbrev pub invariant-loop-item : goal.invariant-loop-item
invariant-loop-item l =
    (done : List TypedFunTree) × IsWalked (map item_tree l.items) (map item_tree (drop l.item-index l.items))
    l.scopes.decls l.functions.items l.totals done

use Rattle.std.proofs.Common.{◌≡◌, map, take}
use Rattle.cas_clight.specs.Units.{decls_of}
use Rattle.cas_syntax.specs.Tree.{item_tree}
use Rattle.cas_cshmgen.proofs.unit.declarations.Given as goal

abbrev pub invariant-loop-item : goal.invariant-loop-item
invariant-loop-item l = l.decls.items ≡ decls_of (map item_tree (take l.item-index l.items))

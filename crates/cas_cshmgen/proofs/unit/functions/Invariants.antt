use Rattle.std.proofs.Common.{map, length}
use Rattle.cas_check.specs.Fits.{FunctionsFit}
use Rattle.cas_syntax.specs.Tree.{item_tree}
use Rattle.cas_typed.specs.Resolved.{TypedFunTree}
use Rattle.cas_typed.specs.Whole.{AreFunctionsOf}
use Rattle.std.specs.Prelude.{List}
use Rattle.cas_cshmgen.specs.Made.{HaveFew}
use Rattle.cas_cshmgen.proofs.Modules.{IsBuilt}
use Rattle.cas_cshmgen.proofs.unit.functions.Given as goal

abbrev pub invariant-each : goal.invariant-each
invariant-each l = record {
  few : HaveFew (map item_tree l.rest);
  fit : FunctionsFit l.decls l.left;
  built : (rs : List TypedFunTree) → AreFunctionsOf rs l.functions →
      IsBuilt l.decls (map item_tree l.items) (map item_tree l.rest) rs l.all.items l.left;
}

abbrev pub decreases-each : goal.decreases-each
decreases-each l = length l.rest

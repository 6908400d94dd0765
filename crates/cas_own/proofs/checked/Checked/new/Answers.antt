use Rattle.std.proofs.Math.Logic.{∥∥₁_map}
use Rattle.cas_syntax.specs.Tree.{module_tree}
use Rattle.cas_typed.specs.Resolved.{TypedModuleTree}
use Rattle.cas_typed.specs.Whole.{AreTypedAs}
use Rattle.cas_own.proofs.checked.Checked.new.Goals as goal

pub invariant_of-result : goal.invariant_of-result
invariant_of-result c = record {
  checked =
      ∥∥₁_map c.args.typed.typed
      (λ (w : (r : TypedModuleTree) × AreTypedAs (module_tree c.args.typed.filled) c.args.typed.functions r).
      (w.0, w.1, c.requires w.0 w.1));
}

-- The check of one item in the code.
use Rattle.std.proofs.Common.{◌≡◌, List, [], ◌∷◌, ◌++◌, Option, None, ap}
use Rattle.cas_base.specs.declared.decl.Decl.{Decl}
use Rattle.cas_own.specs.Checked.{OwnFaultTree, first, function_fault, items_fault}
use Rattle.cas_syntax.specs.Tree.{FunTree, ItemTree, define}
use Rattle.cas_typed.specs.Numbered.{IsFunctionOf}
use Rattle.cas_typed.specs.Resolved.{TypedFunTree}
use Rattle.cas_typed.specs.Whole.{AreFunctionsOf}
use Rattle.cas_typed.specs.declared.rows.TypedFun.{TypedFun}

-- a function without a fault: the items behind it have the functions that are left
pub defined_step : (ds before : List Decl) (f : FunTree) (items : List ItemTree) (function : TypedFun)
    (left : List TypedFun) (rs : List TypedFunTree)
    → AreFunctionsOf rs (function ∷ left) → ((r : TypedFunTree) → IsFunctionOf r function →
    function_fault ds f r ≡ None)
    → (now : List TypedFunTree) × AreFunctionsOf now left
    × (items_fault ds before (define f ∷ items) rs ≡ items_fault ds (before ++ f.decl ∷ []) items now)
defined_step ds before f items function left [] are h = absurd are
defined_step ds before f items function left (r ∷ rs) are h =
    (rs, are.1, ap (λ (t : Option OwnFaultTree). first t (items_fault ds (before ++ f.decl ∷ []) items rs)) (h r are.0))

use Rattle.std.proofs.Common.{◌≡◌, List, [], ◌∷◌, ◌++◌, sym, subst}
use Rattle.cas_own.specs.Checked.{items_fault}
use Rattle.cas_check.proofs.Item_steps.{defined_step}
use Rattle.cas_syntax.specs.Tree.{fun_tree, item_tree}
use Rattle.cas_syntax.specs.declared.tree.Item.{Item}
use Rattle.cas_typed.specs.Modules.{decl_of}
use Rattle.cas_typed.specs.Whole.{AreFunctionsOf}
use Rattle.cas_typed.specs.declared.rows.TypedFun.{TypedFun}
use Rattle.cas_check.proofs.module.check_item.Goals as goal

pub returns-in_ok-check_function-in-Some-clause-steps : goal.returns-in_ok-check_function-in-Some-clause-steps
returns-in_ok-check_function-in-Some-clause-steps c = λ before behind items rs whole count are.
    let ds = c.args.table.now in
    let step = defined_step ds before (fun_tree c.in-Define.fun) items c.in-Some.function.now c.in-Some.left.now rs
    (subst (λ (fs : List TypedFun). AreFunctionsOf rs fs) c.in-Some.ensures.cases.0 are)
    c.in_ok-check_function-in-Some.ensures in (
      step.0,
      step.1,
      subst (λ (it : Item). items_fault ds before (item_tree it ∷ items) rs ≡ items_fault ds
          (before ++ decl_of (item_tree it) ∷ []) items step.0) (sym c.in-Define.is) step.2,
    )

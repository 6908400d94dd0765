-- Whole modules.
use Rattle.std.proofs.Common.{◌≡◌, List, [], map, Ok, ap, sym, subst, ◌∙◌}
use Rattle.cas_syntax.specs.declared.tree.Item.{Item}
use Rattle.cas_syntax.specs.declared.tree.Module.{Module}
use Rattle.cas_syntax.specs.Tree.{ModuleTree, item_tree, module_tree}
use Rattle.cas_type.specs.Whole_walk.{GivesFunctions}
use Rattle.cas_typed.proofs.Filled.{IsTyped-filled}
use Rattle.cas_typed.proofs.Items.{walk_module-typed}
use Rattle.cas_typed.proofs.Kept_words.{IsTyped-formed}
use Rattle.cas_typed.specs.Faults.{then_}
use Rattle.cas_typed.specs.Formed.{IsFormed}
use Rattle.cas_typed.specs.Modules.{IsTyped, filled_module}
use Rattle.cas_typed.specs.Resolved.{TypedModuleTree}
use Rattle.cas_typed.specs.Walk.{walk_items}
use Rattle.cas_typed.specs.Whole.{AreFunctionsOf, AreTypedAs}
use Rattle.cas_typed.specs.declared.rows.TypedFun.{TypedFun}

-- a module whose items are walked through without a fault, and then filled up
pub typed_so : (m : Module) (items : List Item) (filled : ModuleTree) (fs gs : List TypedFun) → items ≡ m.items →
    gs ≡ fs
    → GivesFunctions (Ok fs) (walk_items [] (map item_tree items)) → filled ≡ filled_module (module_tree m) →
    IsFormed (module_tree m)
    → (r : TypedModuleTree) × AreTypedAs filled gs r × IsTyped (module_tree m) r
typed_so m items filled fs gs same kept walked full formed =
    let r : TypedModuleTree = record { module_tree = filled_module (module_tree m); functions = walked.0 } in
    let typed : IsTyped (module_tree m) r =
    walk_module-typed (module_tree m) r
    (ap (λ is. then_ (walk_items [] (map item_tree is))
    (λ rs. Ok (record { module_tree = filled_module (module_tree m); functions = rs }))) (sym same)
    ∙ ap (λ o. then_ o (λ rs. Ok (record { module_tree = filled_module (module_tree m); functions = rs }))) walked.1) in (
      r,
      record {
        module_tree = sym full;
        formed = subst IsFormed (sym full) (IsTyped-formed (module_tree m) r formed typed);
        functions = subst (λ (hs : List TypedFun). AreFunctionsOf walked.0 hs) (sym kept) walked.2;
        typed = IsTyped-filled (module_tree m) r typed;
      },
      typed,
    )

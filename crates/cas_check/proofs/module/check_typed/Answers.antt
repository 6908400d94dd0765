use Rattle.std.proofs.Common.{List, ap, map, sym, subst, ◌∙◌}
use Rattle.cas_check.proofs.Typed_fits.{typed_fit}
use Rattle.cas_check.specs.Fits.{FunctionsFit}
use Rattle.cas_syntax.specs.Tree.{item_tree, module_tree}
use Rattle.cas_syntax.specs.declared.tree.Item.{Item}
use Rattle.cas_syntax.specs.declared.tree.Module.{Module}
use Rattle.cas_typed.specs.Modules.{decl_of}
use Rattle.cas_typed.specs.declared.rows.TypedFun.{TypedFun}
use Rattle.cas_check.proofs.module.check_typed.Goals as goal

pub check_items-requires-clause-fit : goal.check_items-requires-clause-fit
check_items-requires-clause-fit c =
    let typed = c.args.typed.now in
    subst (λ (fs : List TypedFun). FunctionsFit c.in_ok-table.table fs) (sym c.functions.ensures)
    (typed_fit c.in_ok-table.table (module_tree typed.filled) typed.functions
    (c.in_ok-table.ensures ∙ ap (λ (items : List Item). map decl_of (map item_tree items))
    (c.as_slice-items.ensures ∙ ap (λ (m : Module). m.items) c.module.ensures))
    typed.typed)

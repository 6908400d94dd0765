use Rattle.std.proofs.Common.{List, ap, map, sym, subst, ◌∙◌}
use Rattle.cas_check.proofs.Typed_fits.{typed_fit}
use Rattle.cas_check.specs.Fits.{FunctionsFit}
use Rattle.cas_syntax.specs.Tree.{item_tree, module_tree}
use Rattle.cas_syntax.specs.declared.tree.Item.{Item}
use Rattle.cas_syntax.specs.declared.tree.Module.{Module}
use Rattle.cas_typed.specs.Modules.{decl_of}
use Rattle.cas_typed.specs.declared.rows.TypedFun.{TypedFun}
use Rattle.cas_cshmgen.specs.Made.{HaveFew}
use Rattle.cas_cshmgen.proofs.Modules.{typed_few}
use Rattle.cas_cshmgen.proofs.unit.make_unit.Goals as goal

pub functions-requires-2-clause-few : goal.functions-requires-2-clause-few
functions-requires-2-clause-few c =
    let typed = c.args.typed.now in
    subst (λ (items : List Item). HaveFew (map item_tree items))
    (sym (c.as_slice-items.ensures ∙ ap (λ (m : Module). m.items) c.module.ensures))
    (typed_few (module_tree typed.filled) typed.functions typed.typed)

pub functions-requires-2-clause-fit : goal.functions-requires-2-clause-fit
functions-requires-2-clause-fit c =
    let typed = c.args.typed.now in
    subst (λ (fs : List TypedFun). FunctionsFit c.as_slice.result.now fs) (sym c.functions.ensures)
    (typed_fit c.as_slice.result.now (module_tree typed.filled) typed.functions
    (c.as_slice.ensures ∙ c.in_ok-decls.ensures ∙ ap (λ (items : List Item). map decl_of (map item_tree items))
    (c.as_slice-items.ensures ∙ ap (λ (m : Module). m.items) c.module.ensures))
    typed.typed)

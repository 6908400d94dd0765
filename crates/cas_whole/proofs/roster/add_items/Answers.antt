use Rattle.std.proofs.Common.{List, [], ◌∷◌, ◌++◌, sym, ap, ◌∙◌, append_assoc, arith}
use Rattle.cas_syntax.specs.Tree.{item_tree}
use Rattle.cas_syntax.specs.declared.tree.Item.{Item}
use Rattle.cas_typed.specs.Modules.{decl_of, decls_of_items}
use Rattle.cas_whole.proofs.Rosters.{made_more}
use Rattle.cas_whole.proofs.roster.add_items.Goals as goal

pub items-preserved : goal.items-preserved
items-preserved c =
    let others = c.in-Some.others.now in
    let whole = c.in-Some.ensures.cases.0 in
    let decl = decl_of (item_tree c.in-Some.item.now) in
    record {
      some = omega (arith, c.items.invariant.some, c.in_ok-add_item.ensures.count);
      added = λ front unit begins.
          let (made, is, so_far) = c.items.invariant.added front unit begins in (
            made ++ decl ∷ [],
            made_more c.items.units c.add_item.new.units front unit made decl is c.in_ok-add_item.ensures.added,
            append_assoc made (decl ∷ []) (decls_of_items others)
                ∙ ap (λ (xs : List Item). made ++ decls_of_items xs) (sym whole)
                ∙ so_far,
          );
    }

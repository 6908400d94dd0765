use Rattle.std.proofs.Common.{List, map, subst, sym}
use Rattle.cas_mid.specs.declared.tree.CsharpFun.{CsharpFun}
use Rattle.cas_syntax.specs.Tree.{item_tree}
use Rattle.cas_syntax.specs.declared.tree.Item.{Item}
use Rattle.cas_cshmgen.specs.Made.{HaveFew}
use Rattle.cas_cshmgen.proofs.Modules.{IsBuilt, built_first, built_on}
use Rattle.cas_cshmgen.proofs.unit.functions.Goals as goal

pub each-init : goal.each-init
each-init c = record {
  few = c.requires.few;
  fit = c.requires.fit;
  built = λ rs are.
      let items = map item_tree c.args.items.now in
      subst (λ (made : List CsharpFun). IsBuilt c.args.decls.now items items rs made c.args.functions.now)
      (sym c.new-all.ensures.items)
      (built_first c.args.decls.now items rs c.args.functions.now are);
}

pub each-preserved : goal.each-preserved
each-preserved c =
    let ds = c.args.decls.now in
    let items = map item_tree c.args.items.now in
    let item = c.in-Some.item.now in
    let others = c.in-Some.others.now in
    let few = subst (λ (xs : List Item). HaveFew (map item_tree xs)) c.in-Some.ensures.cases.0 c.each.invariant.few in
    record {
      few = few.1;
      fit = c.in_ok-left.ensures.fit;
      built = λ rs are.
          let b = subst (λ (xs : List Item). IsBuilt ds items (map item_tree xs) rs c.each.all.items c.each.left.now)
          c.in-Some.ensures.cases.0 (c.each.invariant.built rs are) in
          built_on ds items (item_tree item) (map item_tree others) rs c.each.all.items c.add_function.new.all.items
          c.each.left.now c.in_ok-left.left.now b
          (c.in_ok-left.ensures.added b.later b.before b.functions b.is_made);
    }

use Rattle.std.proofs.Common.{◌≡◌, ◌∷◌, ◌-◌, List, length, subst, ap, ◌∙◌}
use Rattle.cas_check.proofs.Items_walked.{IsWalked, walked_first, walked_on}
use Rattle.cas_syntax.specs.declared.tree.Item.{Item}
use Rattle.cas_check.proofs.module.check_items.Goals as goal

pub each-init : goal.each-init
each-init c = record {
  walked = walked_first c.args.table.now c.args.items.now c.args.functions.now c.requires.items;
  fit = c.requires.fit;
}

pub each-preserved : goal.each-preserved
each-preserved c =
    let item = c.in-Some.item.now in
    let others = c.in-Some.others.now in
    let whole : c.each.rest.now ≡ item ∷ others = c.in-Some.ensures.cases.0 in
    let walked =
    subst (λ (xs : List Item). IsWalked c.args.table.now c.args.items.now c.args.functions.now xs c.each.left.now)
    whole c.each.invariant.walked in
    let count : c.count_before-number.result ≡ length c.args.items.now - length (item ∷ others) =
    c.count_before-number.ensures ∙ ap (λ (xs : List Item). length c.args.items.now - length xs) whole in
    record {
      walked = walked_on c.args.table.now c.args.items.now c.args.functions.now item others c.each.left.now
          c.count_before-number.result c.in_ok-left.left count walked c.in_ok-left.ensures.steps;
      fit = c.in_ok-left.ensures.fit;
    }

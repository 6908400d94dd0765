use Rattle.std.proofs.Common.{sym, ap, map, ◌∙◌}
use Rattle.cas_syntax.specs.Tree.{fun_tree, item_tree, expr_tree, stmt_trees}
use Rattle.cas_top.proofs.Form_laws.{all_generated, form_generated, code_generated, none_generated}
use Rattle.cas_top.proofs.generate.generate.Goals as goal

pub returns : goal.returns
returns c =
    let name = c.args.name.now in
    let items = map item_tree c.args.tree.now.items in
    let (p, prints) = c.in-Some-only_printed.ensures.found in
    let made = all_generated name items (fun_tree c.in-Some.fun.now) (expr_tree c.in-Some-only_printed.printed.now)
    p c.print_code.result
    (ap (map item_tree) (sym c.as_slice.ensures) ∙ c.in-Some.ensures.found)
    (sym c.is_entry_named.ensures ∙ c.if-not-is_entry_named.false)
    (ap stmt_trees (sym c.as_slice-2.ensures) ∙ prints) c.print_code.ensures in
    record {
      form = form_generated name items c.print_code.result made;
      generated = code_generated name items c.print_code.result made;
      others = none_generated name items c.print_code.result made;
    }

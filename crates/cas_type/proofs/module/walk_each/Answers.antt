use Rattle.std.proofs.Common.{[], ◌∷◌, ◌++◌, map, drop, ◌+◌, ap, sym, ◌∙◌}
use Rattle.std.specs.Option.{option_to_list}
use Rattle.cas_syntax.specs.Tree.{item_tree}
use Rattle.cas_type.specs.Parts.{capped}
use Rattle.cas_type.proofs.Walk_lemmas.{gone_on, next_item, passed_into, stopped}
use Rattle.cas_typed.specs.Counts.{function_count, word_count}
use Rattle.cas_typed.specs.Walk.{walk_items}
use Rattle.cas_type.proofs.module.walk_each.Goals as goal

pub returns-in_err-function : goal.returns-in_err-function
returns-in_err-function c =
    let items = c.args.items.now in
    let k = c.loop-item.item-index in
    let item = c.item-item.result in
    let decls = c.loop-item.scopes.decls in
    let fault = c.in_err-function.field-0.0 in
    passed_into c.loop-item.functions.items c.from_residual.result fault (walk_items [] (map item_tree items))
    c.from_residual.ensures.1
    (stopped (map item_tree items) (item_tree item) (map item_tree (drop (k + 1) items))
    decls c.loop-item.functions.items c.loop-item.totals fault
    (next_item (map item_tree items) items k item decls c.loop-item.functions.items c.loop-item.totals
    c.loop-item-test.true c.item-item.is c.loop-item.invariant)
    c.in_err-function.ensures.walked)

pub loop-item-preserved : goal.loop-item-preserved
loop-item-preserved c =
    let items = c.args.items.now in
    let k = c.loop-item.item-index in
    let item = c.item-item.result in
    let decls = c.loop-item.scopes.decls in
    let so = next_item (map item_tree items) items k item decls c.loop-item.functions.items c.loop-item.totals
    c.loop-item-test.true c.item-item.is c.loop-item.invariant in
    let declared = c.in_ok-function.ensures.decls in
    let now = ap (λ d. decls ++ d ∷ []) c.declared.ensures ∙ sym declared in
    gone_on (map item_tree items) (item_tree item) (map item_tree (drop (k + 1) items))
    decls c.walk_step.new.scopes.decls
    c.loop-item.functions.items c.add.new.functions.items (option_to_list c.in_ok-function.function)
    c.loop-item.totals c.with-totals.result
    so c.in_ok-function.ensures.walked declared c.in_ok-add.ensures
    (c.with-totals.ensures.functions decls so.1.functions_counted ∙ ap (λ ds. capped (function_count ds)) now)
    (c.with-totals.ensures.words decls so.1.words_counted ∙ ap (λ ds. capped (word_count ds)) now)

use Rattle.std.proofs.Common.{IfOk, subst, sym}
use Rattle.cas_syntax.specs.Tree.{ItemTree, item_tree}
use Rattle.cas_cshmgen.specs.Made.{HasFew, IsAdded}
use Rattle.cas_cshmgen.proofs.Modules.{added_nothing, no_body}
use Rattle.cas_cshmgen.proofs.unit.add_function.Goals as goal

pub add_body-requires-clause-few : goal.add_body-requires-clause-few
add_body-requires-clause-few c = subst (λ (a : ItemTree). HasFew a) c.in-Some.ensures c.requires.few

pub returns-in-None-clause-added : goal.returns-in-None-clause-added
returns-in-None-clause-added c = λ rs before are made.
    added_nothing c.args.decls.now (item_tree c.args.item.now) rs before c.args.all.now.items c.args.left.now
    (no_body c.args.decls.now (item_tree c.args.item.now) rs c.in-None.ensures) are made

pub returns-in-Some-clause-added : goal.returns-in-Some-clause-added
returns-in-Some-clause-added c = λ rs before are made.
    subst (λ (a : ItemTree). IfOk c.add_body.result
    (λ now. IsAdded c.args.decls.now a rs before c.add_body.new.all.items now.now)) (sym c.in-Some.ensures)
    (c.add_body.ensures.added rs before are made)

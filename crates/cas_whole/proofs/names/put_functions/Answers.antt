use Rattle.cas_typed.specs.Modules.{decls_of_items}
use Rattle.std.proofs.Common.{List, subst}
use Rattle.std.proofs.lemmas.List.{nil_from_length}
use Rattle.cas_syntax.specs.declared.tree.Item.{Item}
use Rattle.cas_whole.proofs.Tables.{HasFunctions, functions_done}
use Rattle.cas_whole.proofs.names.put_functions.Goals as goal

pub returns : goal.returns
returns c =
    functions_done c.args.unit c.items.place c.args.table.now.entries c.items.table.entries
    (decls_of_items c.args.items.now)
    (subst (λ (xs : List Item). HasFunctions c.args.unit c.args.table.now.entries c.items.table.entries c.items.place
    (decls_of_items xs) (decls_of_items c.args.items.now))
    (nil_from_length c.items.rest.now c.in_default.ensures.cases) c.items.invariant.has)

use Rattle.cas_typed.specs.Modules.{decls_of_items}
use Rattle.std.proofs.Common.{◌≡◌, ◌+◌, length}
use Rattle.cas_base.specs.Decl.{functions_of}
use Rattle.cas_whole.proofs.Tables.{HasFunctions}
use Rattle.cas_whole.proofs.names.put_functions.Given as goal

abbrev pub invariant-items : goal.invariant-items
invariant-items l = record {
  counted : l.place + length (functions_of (decls_of_items l.rest)) ≡ length (functions_of (decls_of_items l.items));
  has : HasFunctions l.unit l.initial.table.entries l.table.entries l.place (decls_of_items l.rest)
      (decls_of_items l.items);
}

abbrev pub decreases-items : goal.decreases-items
decreases-items l = length l.rest

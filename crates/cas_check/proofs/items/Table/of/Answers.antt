use Rattle.std.proofs.Common.{◌∙◌}
use Rattle.cas_check.proofs.Declared.{guards_of, all_held}
use Rattle.cas_check.proofs.items.Table.of.Goals as goal

pub invariant_of-result : goal.invariant_of-result
invariant_of-result c = (
  c.in_ok-guards.ensures ∙ guards_of _ c.decls-decls.result.now c.decls-decls.ensures,
  c.in_ok-holds.ensures
      ∙ all_held _ c.decls-decls.result.now c.decls-decls.ensures,
)

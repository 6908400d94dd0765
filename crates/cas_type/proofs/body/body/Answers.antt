use Rattle.std.proofs.Common.{ap, ◌∙◌}
use Rattle.cas_syntax.specs.Tree.{stmt_trees}
use Rattle.cas_type.proofs.Scopes_left.{leaves-after_list}
use Rattle.cas_typed.specs.Scopes.{Scope}
use Rattle.cas_type.proofs.body.body.Goals as goal

pub returns-clause-decls : goal.returns-clause-decls
returns-clause-decls c =
    ap (λ (scope : Scope). scope.decls) c.in_ok-body.ensures.scope
    ∙ (leaves-after_list c.args.scopes.now (stmt_trees c.args.stmts.now)).decls

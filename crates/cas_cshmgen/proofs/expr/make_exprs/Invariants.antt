use Rattle.std.proofs.Common.{◌≡◌, map, take}
use Rattle.cas_mid.specs.Code.{csharp_expression}
use Rattle.cas_typed.specs.Resolved.{typed_expr_tree}
use Rattle.cas_cshmgen.specs.Makes.{made_exprs}
use Rattle.cas_cshmgen.proofs.expr.make_exprs.Given as goal

abbrev pub invariant-loop-expr : goal.invariant-loop-expr
invariant-loop-expr l = map csharp_expression l.made.items ≡ made_exprs l.decls
    (map typed_expr_tree (take l.expr-index l.exprs))

use Rattle.std.proofs.Common.{Ok, Some, ap}
use Rattle.cas_typed.specs.Faults.{then_}
use Rattle.cas_typed.specs.Resolved as t
use Rattle.cas_typed.specs.Resolved.{typed_expr_tree}
use Rattle.cas_typed.specs.declared.tree.TypedExpr.{TypedExpr}
use Rattle.cas_type.proofs.plain.type_print.Goals as goal

pub returns : goal.returns
returns c = (
  _,
  ap (λ w. then_ w (λ found. Ok (t.print c.args.place found))) c.in_ok-value.ensures,
  ap (λ (e : TypedExpr). Some (t.print c.args.place (typed_expr_tree e))) c.into_inner.ensures,
)

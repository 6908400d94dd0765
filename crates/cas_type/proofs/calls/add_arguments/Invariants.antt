use Rattle.std.proofs.Common.{◌≡◌, length, map}
use Rattle.cas_syntax.specs.Tree.{expr_tree}
use Rattle.cas_type.specs.View.{extended}
use Rattle.cas_typed.specs.Resolved.{typed_expr_tree}
use Rattle.cas_typed.specs.Resolving.{values_of}
use Rattle.cas_type.proofs.calls.add_arguments.Given as goal

abbrev pub invariant-each : goal.invariant-each
invariant-each l =
    extended (map typed_expr_tree l.values.items) (values_of l.scopes (map expr_tree l.rest) l.types)
    ≡ extended (map typed_expr_tree l.fn.values.items) (values_of l.scopes (map expr_tree l.args) l.tys)

abbrev pub decreases-each : goal.decreases-each
decreases-each l = length l.rest

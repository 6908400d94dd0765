use Rattle.std.proofs.Common.{◌≡◌, map, length}
use Rattle.cas_own.specs.Flow.{Flow, guarded}
use Rattle.cas_own.specs.Uses.{argument_uses}
use Rattle.cas_typed.specs.Resolved.{typed_expr_tree}
use Rattle.cas_check.proofs.uses.check_arguments.Given as goal

abbrev pub invariant-each : goal.invariant-each
invariant-each l = (next : Flow) →
    guarded l.table l.set (argument_uses (map typed_expr_tree l.rest)) next ≡ guarded l.table l.set
    (argument_uses (map typed_expr_tree l.args)) next

abbrev pub decreases-each : goal.decreases-each
decreases-each l = length l.rest

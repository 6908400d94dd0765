use Rattle.std.proofs.Common.{◌≡◌, length, map}
use Rattle.cas_syntax.specs.Tree.{expr_tree}
use Rattle.cas_typed.specs.Walk.{arguments_fault}
use Rattle.cas_type.proofs.calls.check_arguments.Given as goal

abbrev pub invariant-each : goal.invariant-each
invariant-each l = arguments_fault l.scopes (map expr_tree l.rest) ≡ arguments_fault l.scopes (map expr_tree l.args)

abbrev pub decreases-each : goal.decreases-each
decreases-each l = length l.rest

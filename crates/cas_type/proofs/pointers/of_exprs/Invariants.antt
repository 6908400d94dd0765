use Rattle.std.proofs.Common.{◌≡◌, ◌++◌, length}
use Rattle.cas_type.specs.Parts.{pointers_of_exprs}
use Rattle.cas_type.proofs.pointers.of_exprs.Given as goal

abbrev pub invariant-each : goal.invariant-each
invariant-each l = l.found.items ++ pointers_of_exprs l.rest ≡ l.initial.found.items ++ pointers_of_exprs l.exprs

abbrev pub decreases-each : goal.decreases-each
decreases-each l = length l.rest

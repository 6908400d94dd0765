use Rattle.std.proofs.Common.{◌≡◌, ◌++◌, length, map}
use Rattle.cas_type.specs.Parts.{ident_of}
use Rattle.cas_type.proofs.named.parameter_names.Given as goal

abbrev pub invariant-each : goal.invariant-each
invariant-each l = map ident_of l.found.items ++ l.rest ≡ l.params

abbrev pub decreases-each : goal.decreases-each
decreases-each l = length l.rest

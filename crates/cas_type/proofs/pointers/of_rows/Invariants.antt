use Rattle.std.proofs.Common.{◌≡◌, ◌++◌, length}
use Rattle.cas_type.specs.Parts.{pointers_of_rows}
use Rattle.cas_type.proofs.pointers.of_rows.Given as goal

abbrev pub invariant-each : goal.invariant-each
invariant-each l = l.found.items ++ pointers_of_rows l.rest ≡ pointers_of_rows l.rows

abbrev pub decreases-each : goal.decreases-each
decreases-each l = length l.rest

use Rattle.std.proofs.Common.{◌≡◌, length}
use Rattle.cas_own.specs.Flow.{Flow, held}
use Rattle.cas_check.proofs.uses.check_held.Given as goal

abbrev pub invariant-each : goal.invariant-each
invariant-each l = (next : Flow) → held l.place l.set l.rest next ≡ held l.place l.set l.locks next

abbrev pub decreases-each : goal.decreases-each
decreases-each l = length l.rest

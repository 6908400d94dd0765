use Rattle.std.proofs.Common.{◌≡◌, ◌++◌, length}
use Rattle.cas_own.specs.Locks.{locks_named}
use Rattle.cas_check.proofs.items.locks_named.Given as goal

abbrev pub invariant-each : goal.invariant-each
invariant-each l = l.locks.items ++ locks_named l.symbols l.rest ≡ locks_named l.symbols l.names

abbrev pub decreases-each : goal.decreases-each
decreases-each l = length l.rest

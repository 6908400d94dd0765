use Rattle.std.proofs.Common.{◌≡◌, ◌++◌, length}
use Rattle.cas_own.specs.Locks.{without}
use Rattle.cas_check.proofs.locks.Locks.without.Given as goal

abbrev pub invariant-each : goal.invariant-each
invariant-each l = l.numbers.items ++ without l.rest l.lock ≡ without l.self l.lock

abbrev pub decreases-each : goal.decreases-each
decreases-each l = length l.rest

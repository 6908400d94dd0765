use Rattle.std.proofs.Common.{◌≡◌, ◌++◌, length}
use Rattle.cas_own.specs.Locks.{having}
use Rattle.cas_check.proofs.locks.Locks.with.Given as goal

abbrev pub invariant-each : goal.invariant-each
invariant-each l = l.numbers.items ++ having l.rest l.lock ≡ having l.self l.lock

abbrev pub decreases-each : goal.decreases-each
decreases-each l = length l.rest

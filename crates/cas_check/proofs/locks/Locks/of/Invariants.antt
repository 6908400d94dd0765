use Rattle.std.proofs.Common.{◌≡◌, length}
use Rattle.cas_own.specs.Locks.{set_of}
use Rattle.cas_check.specs.View.{adding}
use Rattle.cas_check.proofs.locks.Locks.of.Given as goal

abbrev pub invariant-each : goal.invariant-each
invariant-each l = adding l.rest l.set ≡ set_of l.locks

abbrev pub decreases-each : goal.decreases-each
decreases-each l = length l.rest

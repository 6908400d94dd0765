use Rattle.std.proofs.Common.{◌≡◌, length}
use Rattle.cas_own.specs.Locks.{differs}
use Rattle.cas_check.proofs.locks.Locks.differs.Given as goal

abbrev pub invariant-each : goal.invariant-each
invariant-each l = differs l.rest l.left ≡ differs l.self l.other

abbrev pub decreases-each : goal.decreases-each
decreases-each l = length l.rest

use Rattle.cas_own.proofs.Sets.{sets_are_of_locks}
use Rattle.cas_own.proofs.laws.sets_are_of_locks.Goals as goal

pub returns : goal.returns
returns c = sets_are_of_locks

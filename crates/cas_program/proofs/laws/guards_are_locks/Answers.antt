use Rattle.cas_program.proofs.Locking.{guards_are_locks, locks_are_by_name, locks_are_declared, shared_are_declared}
use Rattle.cas_program.proofs.laws.guards_are_locks.Goals as goal

pub returns-clause-guards : goal.returns-clause-guards
returns-clause-guards c = guards_are_locks

pub returns-clause-shared_ones : goal.returns-clause-shared_ones
returns-clause-shared_ones c = shared_are_declared

pub returns-clause-locks : goal.returns-clause-locks
returns-clause-locks c = locks_are_declared

pub returns-clause-names : goal.returns-clause-names
returns-clause-names c = locks_are_by_name

use Rattle.cas_atomic.proofs.Unsound.{enters_taken_is_unsound, never_waits_is_unsound, adds_one_is_unsound, stores_zero_is_unsound}
use Rattle.cas_atomic.proofs.other_bodies_are_unsound.Goals as goal

pub returns-clause-entering : goal.returns-clause-entering
returns-clause-entering c = enters_taken_is_unsound

pub returns-clause-falling : goal.returns-clause-falling
returns-clause-falling c = never_waits_is_unsound

pub returns-clause-adding : goal.returns-clause-adding
returns-clause-adding c = adds_one_is_unsound

pub returns-clause-clearing : goal.returns-clause-clearing
returns-clause-clearing c = stores_zero_is_unsound

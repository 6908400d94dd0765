use Rattle.cas_own.proofs.Sets.{differences_are_first}
use Rattle.cas_own.proofs.laws.differences_are_first.Goals as goal

pub returns : goal.returns
returns c = differences_are_first

use Rattle.cas_own.proofs.Sets.{sets_ascend}
use Rattle.cas_own.proofs.laws.sets_ascend.Goals as goal

pub returns : goal.returns
returns c = sets_ascend

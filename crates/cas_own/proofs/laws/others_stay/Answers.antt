use Rattle.cas_own.proofs.Sets.{others_stay}
use Rattle.cas_own.proofs.laws.others_stay.Goals as goal

pub returns : goal.returns
returns c = others_stay

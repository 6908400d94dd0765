use Rattle.cas_top.proofs.One_answer.{causes_exclude}
use Rattle.cas_top.proofs.laws.causes_exclude.Goals as goal

pub returns : goal.returns
returns c = causes_exclude

use Rattle.std.proofs.Common.{[]}
use Rattle.cas_check.proofs.uses.check_one.Goals as goal

pub returns : goal.returns
returns c = λ next. c.check_use.ensures [] next

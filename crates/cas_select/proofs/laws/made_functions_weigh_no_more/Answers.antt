use Rattle.cas_select.proofs.Pass.{weighs_no_more}
use Rattle.cas_select.proofs.laws.made_functions_weigh_no_more.Goals as goal

pub returns : goal.returns
returns c = λ decls g f made. weighs_no_more f g made

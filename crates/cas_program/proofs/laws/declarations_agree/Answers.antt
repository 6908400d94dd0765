use Rattle.cas_program.proofs.Agreement.{declarations_agree, functions_agree, guards_agree}
use Rattle.cas_program.proofs.laws.declarations_agree.Goals as goal

pub returns-clause-declarations : goal.returns-clause-declarations
returns-clause-declarations c = declarations_agree

pub returns-clause-functions : goal.returns-clause-functions
returns-clause-functions c = functions_agree

pub returns-clause-guards : goal.returns-clause-guards
returns-clause-guards c = guards_agree

use Rattle.cas_whole.proofs.Units.{typed_one}
use Rattle.cas_whole.proofs.laws.programs_are_one.Goals as goal

pub returns-clause-modules : goal.returns-clause-modules
returns-clause-modules c = λ p ms others names more is also. typed_one p.modules ms others is.typed also.typed

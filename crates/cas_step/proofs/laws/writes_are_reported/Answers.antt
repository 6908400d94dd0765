use Rattle.cas_step.proofs.Steps.{writes_are_reported}
use Rattle.cas_step.proofs.laws.writes_are_reported.Goals as goal

pub returns : goal.returns
returns c = writes_are_reported

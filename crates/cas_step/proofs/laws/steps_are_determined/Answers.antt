use Rattle.cas_step.proofs.Steps.{steps_are_determined}
use Rattle.cas_step.proofs.laws.steps_are_determined.Goals as goal

pub returns : goal.returns
returns c = steps_are_determined

use Rattle.cas_step.proofs.Soundness.{values_are_sorted}
use Rattle.cas_step.proofs.laws.values_are_sorted.Goals as goal

pub returns : goal.returns
returns c = values_are_sorted

use Rattle.cas_step.proofs.Soundness.{progress_and_preservation}
use Rattle.cas_step.proofs.laws.progress_and_preservation.Goals as goal

pub returns : goal.returns
returns c = progress_and_preservation

use Rattle.cas_program.proofs.Environments.{environments_are_well_formed}
use Rattle.cas_program.proofs.laws.environments_are_well_formed.Goals as goal

pub returns : goal.returns
returns c = environments_are_well_formed

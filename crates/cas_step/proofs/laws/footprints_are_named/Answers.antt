use Rattle.cas_step.proofs.Steps.{footprints_are_named}
use Rattle.cas_step.proofs.laws.footprints_are_named.Goals as goal

pub returns : goal.returns
returns c = footprints_are_named

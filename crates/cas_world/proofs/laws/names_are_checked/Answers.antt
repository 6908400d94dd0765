use Rattle.cas_world.proofs.Named.{names_are_checked}
use Rattle.cas_world.proofs.laws.names_are_checked.Goals as goal

pub returns : goal.returns
returns c = names_are_checked

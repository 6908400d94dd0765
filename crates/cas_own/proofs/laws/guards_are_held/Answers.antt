use Rattle.cas_own.proofs.Names.{guards_are_held}
use Rattle.cas_own.proofs.laws.guards_are_held.Goals as goal

pub returns : goal.returns
returns c = guards_are_held

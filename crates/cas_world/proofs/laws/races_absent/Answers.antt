use Rattle.cas_world.proofs.Races as races
use Rattle.cas_world.proofs.laws.races_absent.Goals as goal

pub returns : goal.returns
returns c = races.races_absent c.touches_are_guarded.ensures c.declarations_agree.ensures.guards

use Rattle.cas_bridge.proofs.laws.clight_is_portable.Goals as goal
use Rattle.cas_bridge.proofs.Porting as porting

-- src/laws.rt
pub returns-clause-portable : goal.returns-clause-portable
returns-clause-portable c = porting.clight_is_portable

pub returns-clause-steps : goal.returns-clause-steps
returns-clause-steps c = porting.clight_steps_are_same

use Rattle.cas_bridge.proofs.laws.steps_agree.Goals as goal
use Rattle.cas_bridge.proofs.Stepping as stepping

-- src/laws.rt
pub returns : goal.returns
returns c = stepping.steps_agree

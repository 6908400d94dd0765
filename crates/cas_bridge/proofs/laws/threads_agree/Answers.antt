use Rattle.cas_bridge.proofs.laws.threads_agree.Goals as goal
use Rattle.cas_bridge.proofs.Acting as acting

-- src/laws.rt
pub returns-clause-starts : goal.returns-clause-starts
returns-clause-starts c = acting.threads_start

pub returns-clause-steps : goal.returns-clause-steps
returns-clause-steps c = acting.threads_agree

pub returns-clause-frame : goal.returns-clause-frame
returns-clause-frame c = acting.threads_are_framed

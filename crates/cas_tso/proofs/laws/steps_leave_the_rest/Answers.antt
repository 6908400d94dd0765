use Rattle.cas_tso.proofs.Framing.{framed, kept_beside}
use Rattle.cas_tso.proofs.laws.steps_leave_the_rest.Goals as goal

pub returns-clause-machine : goal.returns-clause-machine
returns-clause-machine c = framed

pub returns-clause-thread : goal.returns-clause-thread
returns-clause-thread c = kept_beside

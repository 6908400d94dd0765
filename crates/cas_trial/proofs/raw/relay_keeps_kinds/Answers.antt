use Rattle.cas_trial.proofs.Pacing.{relay_kinds, relay_locks}
use Rattle.cas_trial.proofs.raw.relay_keeps_kinds.Goals as goal

pub returns : goal.returns
returns c = record { kinds = relay_kinds; locks = relay_locks }

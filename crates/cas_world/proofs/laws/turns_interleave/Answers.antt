use Rattle.cas_world.proofs.Turns.{turns_interleave, rounds_interleave}
use Rattle.cas_world.proofs.laws.turns_interleave.Goals as goal

pub returns : goal.returns
returns c = record { schedule = turns_interleave; rounds = rounds_interleave }

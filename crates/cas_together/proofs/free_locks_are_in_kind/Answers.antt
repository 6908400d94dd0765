use Rattle.cas_together.proofs.Kinding.{free_in_kind}
use Rattle.cas_together.proofs.free_locks_are_in_kind.Goals as goal

pub returns : goal.returns
returns g c = λ edge n s keeps first. free_in_kind edge n s keeps first

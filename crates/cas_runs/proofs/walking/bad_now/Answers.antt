use Rattle.cas_runs.proofs.Stars.{bad_now}
use Rattle.cas_runs.proofs.walking.bad_now.Goals as goal

pub returns : goal.returns
returns g c = λ edge m ls b has. bad_now edge m ls b has

use Rattle.cas_exec.proofs.Endings.{all_done}
use Rattle.cas_exec.proofs.laws.runs_without_other_ends_are_done.Goals as goal

pub returns : goal.returns
returns c = all_done

use Rattle.cas_runs.specs.Placing.{moved_blocks}
use Rattle.cas_runs.proofs.Matched.{threads_pass}
use Rattle.cas_runs.proofs.Bringing.{moved_is}
use Rattle.cas_cminorgen.specs.Match.{cminorgen}
use Rattle.cas_cminorgen.proofs.Pass.{cminorgen_shown}
use Rattle.cas_cminorgen.proofs.laws.made_threads_refine.Goals as goal

pub returns : goal.returns
returns c = λ edge ss ts entry fits decls globals made. threads_pass (moved_blocks cminorgen)
    (moved_is cminorgen cminorgen_shown) edge ts ss entry fits decls globals made

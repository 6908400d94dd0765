use Rattle.cas_runs.specs.Placing.{moved_blocks}
use Rattle.cas_runs.proofs.Matched.{units_pass}
use Rattle.cas_runs.proofs.Bringing.{moved_is}
use Rattle.cas_cminorgen.specs.Match.{cminorgen}
use Rattle.cas_cminorgen.proofs.Pass.{cminorgen_shown}
use Rattle.cas_cminorgen.proofs.laws.made_units_refine.Goals as goal

pub returns : goal.returns
returns c = λ s t decls globals defined made. units_pass (moved_blocks cminorgen) (moved_is cminorgen cminorgen_shown)
    t s decls globals defined made

use Rattle.cas_runs.specs.Unmoved.{unmoved}
use Rattle.cas_runs.proofs.Matched.{units_pass}
use Rattle.cas_runs.proofs.Unmoved.{unmoved_is}
use Rattle.cas_cshmgen.proofs.Pass.{cshmgen_shown}
use Rattle.cas_cshmgen.proofs.Simulation.{cshmgen}
use Rattle.cas_cshmgen.proofs.laws.made_units_refine.Goals as goal

pub returns : goal.returns
returns c = λ s t decls globals defined made. units_pass (unmoved cshmgen) (unmoved_is cshmgen cshmgen_shown)
    t s decls globals defined made

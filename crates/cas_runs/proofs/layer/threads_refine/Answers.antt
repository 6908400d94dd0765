use Rattle.cas_runs.proofs.Matched.{threads_pass}
use Rattle.cas_runs.proofs.layer.threads_refine.Goals as goal

pub returns : goal.returns
returns g c = λ edge ss ts entry e d v h. threads_pass g.P.FunctionPass.matching c.shows.ensures edge ts ss entry e d v
    h

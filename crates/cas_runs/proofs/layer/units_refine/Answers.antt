use Rattle.cas_runs.proofs.Matched.{units_pass}
use Rattle.cas_runs.proofs.layer.units_refine.Goals as goal

pub returns : goal.returns
returns g c = λ s t d e defined h. units_pass g.P.FunctionPass.matching c.shows.ensures t s d e defined h

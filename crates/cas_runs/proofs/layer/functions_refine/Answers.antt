use Rattle.cas_runs.proofs.Matched.{functions_pass}
use Rattle.cas_runs.proofs.layer.functions_refine.Goals as goal

pub returns : goal.returns
returns g c = λ decls a b defined h. functions_pass g.P.FunctionPass.matching c.shows.ensures decls b a defined h

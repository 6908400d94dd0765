use Rattle.cas_runs.proofs.Chains.{chains_refine}
use Rattle.cas_runs.proofs.pass.chains_refine.Goals as goal

pub returns : goal.returns
returns g c = λ setting a b m. chains_refine _ _ _ _ (c.chains.ensures setting a b m)

use Rattle.cas_runs.proofs.Refining.{steps_refine}
use Rattle.cas_runs.proofs.pass.steps_refine.Goals as goal

pub returns : goal.returns
returns g c = λ setting a b m f. steps_refine _ _ _ _ (c.simulates.ensures setting a b m f)

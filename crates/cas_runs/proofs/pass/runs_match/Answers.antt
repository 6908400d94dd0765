use Rattle.cas_runs.proofs.Refining.{runs_match}
use Rattle.cas_runs.proofs.pass.runs_match.Goals as goal

pub returns : goal.returns
returns g c = λ setting a b m f ls x r has. runs_match _ _ _ _ (c.simulates.ensures setting a b m f) r has

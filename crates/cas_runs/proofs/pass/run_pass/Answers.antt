use Rattle.std.proofs.lemmas.Result.{IfOk-weaker}
use Rattle.cas_runs.proofs.Refining.{steps_refine}
use Rattle.cas_runs.proofs.pass.run_pass.Goals as goal

pub returns : goal.returns
returns g c =
    IfOk-weaker c.apply.result _ _ (λ b m. λ setting f. steps_refine _ _ _ _ (c.simulates.ensures setting _ b m f))
    c.apply.ensures

use Rattle.std.proofs.Common.{sym, ap, ◌∙◌}
use Rattle.cas_step.specs.Pointers as p
use Rattle.cas_step.specs.Step.{same_object}
use Rattle.cas_eval.specs.Answer.{answer, eval_state}
use Rattle.cas_eval.specs.Cells.{place_in}
use Rattle.cas_eval.proofs.Answering.{stopped}
use Rattle.cas_eval.proofs.context.EvalContext.compared.Goals as goal

pub returns-in_err-equal-in-Ne : goal.returns-in_err-equal-in-Ne
returns-in_err-equal-in-Ne c =
    stopped _ _ (eval_state c.args.self.now) _ _ c.from_residual.ensures.1 c.in_err-equal-in-Ne.ensures
    ∙ ap (λ op. answer (eval_state c.args.self.now) (p.compared same_object op (place_in c.args.a) (place_in c.args.b)))
    (sym c.in-Ne.is)

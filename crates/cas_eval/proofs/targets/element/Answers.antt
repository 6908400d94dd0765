use Rattle.std.proofs.Common.{sym}
use Rattle.cas_step.specs.Evaluate.{of_global}
use Rattle.cas_eval.specs.Answer.{eval_state}
use Rattle.cas_eval.specs.Cells.{cell_view}
use Rattle.cas_eval.proofs.Answering.{given, ok_then, stops}
use Rattle.cas_eval.proofs.targets.element.Goals as goal

pub returns-in_err-value : goal.returns-in_err-value
returns-in_err-value c =
    stops cell_view _ _ (eval_state c.args.context.now) _ _ c.from_residual.ensures.1 c.in_err-value.ensures

pub returns-in_err-place : goal.returns-in_err-place
returns-in_err-place c =
    ok_then (eval_state c.args.context.now) _ _ _ _ c.in_ok-value.ensures
    (stops cell_view _ _ (eval_state c.args.context.now) _ _ c.from_residual-in_err-place.ensures.1
    c.in_err-place.ensures)

pub returns : goal.returns
returns c =
    ok_then (eval_state c.args.context.now) _ _ _ _ c.in_ok-value.ensures
    (ok_then (eval_state c.args.context.now) _ _ _ _ c.in_ok-place.ensures
    (sym (given (eval_state c.args.context.now) (of_global c.args.item c.in_ok-place.place))))

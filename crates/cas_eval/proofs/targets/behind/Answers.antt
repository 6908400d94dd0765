use Rattle.std.proofs.Common.{sym}
use Rattle.cas_step.specs.Evaluate.{of_object}
use Rattle.cas_eval.specs.Answer.{eval_state}
use Rattle.cas_eval.specs.Cells.{cell_view}
use Rattle.cas_memory.specs.Values.{object_of}
use Rattle.cas_eval.proofs.Answering.{given, ok_then, stops}
use Rattle.cas_eval.proofs.targets.behind.Goals as goal

pub returns-in_err-value : goal.returns-in_err-value
returns-in_err-value c =
    stops cell_view _ _ (eval_state c.args.context.now) _ _ c.from_residual.ensures.1 c.in_err-value.ensures

pub returns-in_err-place : goal.returns-in_err-place
returns-in_err-place c =
    ok_then (eval_state c.args.context.now) _ _ _ _ c.in_ok-value.ensures
    (stops cell_view _ _ (eval_state c.args.context.now) _ _ c.from_residual-in_err-place.ensures.1
    (c.in_err-place.ensures (eval_state c.args.context.now)))

pub returns-in_err-cell : goal.returns-in_err-cell
returns-in_err-cell c =
    ok_then (eval_state c.args.context.now) _ _ _ _ c.in_ok-value.ensures
    (ok_then (eval_state c.args.context.now) _ _ _ _ (c.in_ok-place.ensures (eval_state c.args.context.now))
    (stops cell_view _ _ (eval_state c.args.context.now) _ _ c.from_residual-in_err-cell.ensures.1
    c.in_err-cell.ensures))

pub returns : goal.returns
returns c =
    ok_then (eval_state c.args.context.now) _ _ _ _ c.in_ok-value.ensures
    (ok_then (eval_state c.args.context.now) _ _ _ _ (c.in_ok-place.ensures (eval_state c.args.context.now))
    (ok_then (eval_state c.args.context.now) _ _ _ _ c.in_ok-cell.ensures
    (sym (given (eval_state c.args.context.now) (of_object (object_of c.in_ok-cell.cell.0) c.in_ok-cell.cell.1)))))

use Rattle.std.proofs.Common.{map}
use Rattle.cas_memory.specs.Values.{value_of}
use Rattle.cas_eval.specs.Answer.{eval_state}
use Rattle.cas_thread.proofs.Called.{call_ready, fails_told}
use Rattle.cas_thread.proofs.call.evaluated.Goals as goal

pub returns : goal.returns
returns c = λ ret it begins. call_ready (eval_state c.args.context.now) c.args.called.now ret it begins
    (map value_of c.in_ok-values.values.items) c.in_ok-values.ensures

pub returns-in_err-values : goal.returns-in_err-values
returns-in_err-values c = λ ret it begins.
    fails_told (eval_state c.args.context.now) c.args.called.now ret it begins c.in_err-values.field-0.0
    c.in_err-values.ensures c.from_residual.result c.from_residual.ensures.1

use Rattle.cas_eval.specs.Answer.{eval_state}
use Rattle.cas_thread.proofs.Firsts.{assign_first, return_first, print_first}
use Rattle.cas_thread.proofs.effect.first_of.Goals as goal

pub returns-in-Assign : goal.returns-in-Assign
returns-in-Assign c = λ rows n a cont h. rw c.does.ensures
    (assign_first (eval_state c.args.context.now) rows n c.args.row.now.place c.assigned.result c.in-Assign.target
    c.in-Assign.expr c.assigned.ensures a cont (rw c.in-Assign.is at h))

pub returns-in-Return : goal.returns-in-Return
returns-in-Return c = λ rows n a cont h. rw c.does-in-Return.ensures
    (return_first (eval_state c.args.context.now) rows n c.args.row.now.place c.returned.result c.in-Return.expr
    c.returned.ensures a cont (rw c.in-Return.is at h))

pub returns-in-Print : goal.returns-in-Print
returns-in-Print c = λ rows n a cont h. rw c.does-in-Print.ensures
    (print_first (eval_state c.args.context.now) rows n c.args.row.now.place c.printed.result c.in-Print.expr
    c.printed.ensures a cont (rw c.in-Print.is at h))

use Rattle.cas_top.proofs.Report_laws.{run_of}
use Rattle.cas_top.proofs.outcome.lines_of.Goals as goal

pub returns-clause-printed : goal.returns-clause-printed
returns-clause-printed c = λ r stands checked.
    run_of c.args.thread.now c.args.typed.now c.module.result.now r _ _ _ _ c.races_absent.ensures c.module.ensures
    stands checked
    (rw c.in-Some.is at c.in_ok-code.ensures.form) (rw c.in-Some.is at c.in_ok-code.ensures.generated)
    c.deref.ensures.value c.in_ok-report.ensures c.in_ok-report_lines.ensures

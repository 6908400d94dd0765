use Rattle.std.proofs.lemmas.Result.{err_from_is_err_and}
use Rattle.cas_command.specs.View.{run_view}
use Rattle.cas_top.proofs.Ends.{run_end, run_refused}
use Rattle.cas_top.proofs.answer.perform_run.Goals as goal

pub returns-clause-end : goal.returns-clause-end
returns-clause-end g c =
    run_end _ _ (run_view c.args.given) _ _ _ _ _ _ _ _ _ _ _ _ _ c.source_text.ensures c.source_text-2.ensures
    c.in_ok-source.ensures.fetched c.fetch.ensures.same c.in_ok-_lock.ensures.fetched
    c.as_slice.ensures.value c.in_ok-lines.ensures.shown c.as_slice-2.ensures.value c.put_lines.ensures.put

pub returns-in_err-lines-clause-end : goal.returns-in_err-lines-clause-end
returns-in_err-lines-clause-end g c =
    let why = err_from_is_err_and c.from_residual-in_err-lines.result c.from_residual-in_err-lines.ensures.1 in
    rw (why.1, why.2)
    (run_refused _ _ (run_view c.args.given) _ _ _ _ _ _ _ _ _ _ c.source_text.ensures c.source_text-2.ensures
    c.in_ok-source.ensures.fetched c.fetch.ensures.same c.in_ok-_lock.ensures.fetched
    c.as_slice.ensures.value c.in_err-lines.ensures.shown)

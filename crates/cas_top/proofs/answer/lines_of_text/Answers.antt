use Rattle.cas_command.specs.View.{run_view}
use Rattle.cas_top.proofs.One_by_one.{formless_run}
use Rattle.cas_top.proofs.answer.lines_of_text.Goals as goal

pub returns : goal.returns
returns c =
    let run = run_view c.args.given in
    let others = rw c.in-None.is at c.in_ok-lines.ensures.others in
    record {
      shown = formless_run run run.source c.args.text.now c.in_ok-checked.checked c.typed.result.now
          c.in_ok-checked.ensures.checked c.typed.ensures others;
    }

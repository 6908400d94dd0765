use Rattle.std.proofs.Common.{◌∙◌, subst}
use Rattle.cas_exec.specs.Schedule.{Chooses}
use Rattle.cas_tso.specs.State.{Setup}
use Rattle.cas_exec.proofs.Following.{one_less}
use Rattle.cas_exec.proofs.schedule.repeat.Goals as goal

pub times-preserved : goal.times-preserved
times-preserved c =
    let i = c.times.invariant in
    let m = c.times.machine in
    let p = c.args.machine.now.setup in
    let u = c.choose.new.machine.state in
    let chosen = subst (λ (q : Setup). Chooses q c.args.choice m.state u) i.setup c.choose.ensures.chosen in
    record {
      setup = c.choose.ensures.setup ∙ i.setup;
      left = λ t k. i.left t (one_less p c.args.choice c.times.left m.state u t c.times-test.true chosen k);
    }

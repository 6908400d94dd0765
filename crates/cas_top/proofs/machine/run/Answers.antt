use Rattle.std.proofs.Common.{sym, ap, ◌∙◌}
use Rattle.cas_top.specs.Machine.{State}
use Rattle.cas_top.proofs.Run_laws.{report_of_one, stays_at, run_on, fewer_left}
use Rattle.cas_top.proofs.machine.run.Goals as goal

pub loop-machine-init : goal.loop-machine-init
loop-machine-init c = record {
  reached = stays_at _ _ _ c.new-machine.ensures;
  going = ap (λ (s : State). s.end) c.new-machine.ensures;
}

pub returns-in-Some : goal.returns-in-Some
returns-in-Some c = (
  c.step.new.self,
  run_on c.loop-machine.invariant.reached c.loop-machine.invariant.going c.in_ok-step.ensures,
  _,
  ap (λ (s : State). s.end) (sym c.machine.view_is) ∙ c.in-Some.is,
  report_of_one _ _ _ _ (ap (λ (s : State). s.out) c.machine.view_is) c.in_ok-vec.ensures.items,
)

pub loop-machine-smaller : goal.loop-machine-smaller
loop-machine-smaller c =
    fewer_left _ c.loop-machine.machine c.step.new.self c.in_ok-step.ensures
    (ap (λ (s : State). s.end) (sym c.machine.view_is) ∙ c.in_default.is)

pub loop-machine-preserved : goal.loop-machine-preserved
loop-machine-preserved c = record {
  reached = run_on c.loop-machine.invariant.reached c.loop-machine.invariant.going c.in_ok-step.ensures;
  going = ap (λ (s : State). s.end) (sym c.machine.view_is) ∙ c.in_default.is;
}

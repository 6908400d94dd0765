use Rattle.std.proofs.Common.{◌<◌, ◌∙◌, ℕ, length, sym, refl, subst}
use Rattle.cas_tso.specs.Refusal.{StepsAs, refused_drain}
use Rattle.cas_tso.specs.Rounds.{none}
use Rattle.cas_tso.specs.declared.refused.Choice.TheVariants as choice
use Rattle.cas_tso.proofs.Machines.{item_there}
use Rattle.cas_tso.proofs.Rounding.{drained_more, drains_fewer, due_drains, granted}
use Rattle.cas_tso.proofs.machine.Tso.drain_due.Goals as goal

pub due-init : goal.due-init
due-init c = record { setup = refl; threads = refl; drained = none }

pub due-smaller : goal.due-smaller
due-smaller c =
    let m = c.due.self in
    let i = c.args.thread in
    let lt : i < length m.state.threads = subst (λ (n : ℕ). i < n) (sym c.due.invariant.threads) c.requires in
    let item = item_there m.state.threads i lt in
    let r = c.drain-drained in
    let step : StepsAs m.setup m.state (choice.Drain i) r.new.self.state =
    granted r.result (refused_drain item.0.buffer) (r.ensures.answer item.0 item.1)
    (due_drains m.setup.image c.args.hold item.0 (sym (c.is_due.ensures.due item.0 item.1) ∙ c.due-test.true))
    r.ensures.steps in
    drains_fewer m.setup m.state r.new.self.state i step

pub due-preserved : goal.due-preserved
due-preserved c =
    let m = c.due.self in
    let i = c.args.thread in
    let lt : i < length m.state.threads = subst (λ (n : ℕ). i < n) (sym c.due.invariant.threads) c.requires in
    let item = item_there m.state.threads i lt in
    let r = c.drain-drained in
    let step : StepsAs m.setup m.state (choice.Drain i) r.new.self.state =
    granted r.result (refused_drain item.0.buffer) (r.ensures.answer item.0 item.1)
    (due_drains m.setup.image c.args.hold item.0 (sym (c.is_due.ensures.due item.0 item.1) ∙ c.due-test.true))
    r.ensures.steps in
    record {
      setup = r.ensures.setup ∙ c.due.invariant.setup;
      threads = r.ensures.threads ∙ c.due.invariant.threads;
      drained = drained_more c.args.self.now.setup m.setup c.args.hold i c.args.self.now.state m.state r.new.self.state
          c.due.invariant.setup c.due.invariant.drained
          (λ d at. sym (c.is_due.ensures.due d at) ∙ c.due-test.true) step;
    }

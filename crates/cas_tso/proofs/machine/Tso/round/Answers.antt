use Rattle.std.proofs.Common.{◌<◌, ◌∙◌, length, refl, subst, arith}
use Rattle.cas_tso.specs.Rounds.{Turn, begin, next}
use Rattle.cas_tso.specs.State.{Setup}
use Rattle.cas_tso.proofs.machine.Tso.round.Goals as goal

pub loop-thread-init : goal.loop-thread-init
loop-thread-init c = record { setup = refl; threads = refl; turns = begin }

pub loop-thread-preserved : goal.loop-thread-preserved
loop-thread-preserved c =
    let inv = c.loop-thread.invariant in
    let m = c.loop-thread.self in
    let r = c.turn in
    let lt : c.loop-thread.thread < length c.args.self.now.state.threads = omega arith in
    record {
      setup = r.ensures.setup ∙ inv.setup;
      threads = r.ensures.threads ∙ inv.threads;
      turns = next c.loop-thread.thread m.state r.new.self.state inv.turns lt
          (subst (λ (p : Setup). Turn p c.args.hold c.loop-thread.thread m.state r.new.self.state)
          inv.setup r.ensures.turn);
    }

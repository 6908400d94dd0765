use Rattle.cas_tso.proofs.Rounding.{turned}
use Rattle.cas_tso.proofs.machine.Tso.turn.Goals as goal

pub returns-clause-turn : goal.returns-clause-turn
returns-clause-turn c =
    let d = c.drain_due in
    let r = c.run-gone in
    turned c.args.self.now.setup c.args.hold c.args.thread c.args.self.now.state d.new.self r.new.self r.result
    d.ensures.setup
    d.ensures.drained d.ensures.free r.ensures.answer r.ensures.steps r.ensures.still

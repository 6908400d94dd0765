use Rattle.std.proofs.Common.{◌<◌, ◌≤◌, length, arith}
use Rattle.cas_tso.specs.Refusal.{thread_of}
use Rattle.cas_exec.proofs.Following.{idle, tried}
use Rattle.cas_exec.proofs.schedule.choose.Goals as goal

pub returns-then-thread_of-threads-clause-chosen : goal.returns-then-thread_of-threads-clause-chosen
returns-then-thread_of-threads-clause-chosen c =
    let s = c.args.machine.now in
    let e = c.step-taken.ensures in
    let here : thread_of c.args.choice < length s.state.threads =
    grind (arith, c.thread_of.ensures, c.threads.ensures, c.if-thread_of-threads.true) in
    tried c.args.choice s c.step-taken.new.self c.step-taken.result here e.answer e.steps e.still

pub returns-else-thread_of-threads-clause-chosen : goal.returns-else-thread_of-threads-clause-chosen
returns-else-thread_of-threads-clause-chosen c =
    let s = c.args.machine.now in
    let gone : length s.state.threads ≤ thread_of c.args.choice =
    grind (arith, c.thread_of.ensures, c.threads.ensures, c.if-thread_of-threads.false) in
    idle s.setup c.args.choice s.state gone

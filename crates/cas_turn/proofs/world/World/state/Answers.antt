use Rattle.std.proofs.Common.{arith, ◌≡◌, ◌<◌, ◌≤◌, Some, ap, length, slice_get, sym}
use Rattle.cas_program.specs.Program.{env_of}
use Rattle.cas_turn.proofs.Worlds as worlds
use Rattle.cas_turn.specs.Answers.{state_shown}
use Rattle.cas_turn.proofs.world.World.state.Goals as goal

pub state_at-requires-clause-there : goal.state_at-requires-clause-there
state_at-requires-clause-there c =
    let w = c.args.self.now in
    let facts : worlds.Facts =
    record {
      modules = c.programs_are_one.ensures.modules;
      entries = c.programs_are_one.ensures.entries;
      threads =
          c.threads_are_one.ensures;
    } in
    let within : c.args.thread < length w.threads.items = omega (arith, c.if-thread-threads.false, w.threads.ok.0) in
    let at : slice_get w.threads.items c.args.thread ≡ Some c.index-config.result.now =
    worlds.element_at w.threads.items c.args.thread c.index-config.result.now within c.index-config.ensures in
    worlds.is_there facts w.program w.threads.items w.shared.words.items w.holders.items w.out.items c.args.thread
    c.index-config.result.now at w.reached

pub state_at-requires-clause-may : goal.state_at-requires-clause-may
state_at-requires-clause-may c =
    let w = c.args.self.now in
    let facts : worlds.Facts =
    record {
      modules = c.programs_are_one.ensures.modules;
      entries = c.programs_are_one.ensures.entries;
      threads =
          c.threads_are_one.ensures;
    } in
    let within : c.args.thread < length w.threads.items = omega (arith, c.if-thread-threads.false, w.threads.ok.0) in
    let at : slice_get w.threads.items c.args.thread ≡ Some c.index-config.result.now =
    worlds.element_at w.threads.items c.args.thread c.index-config.result.now within c.index-config.ensures in
    rw c.deref.ensures.value (worlds.may facts w.program w.threads.items w.shared.words.items w.holders.items
    w.out.items c.args.thread c.index-config.result.now at c.worlds_are_sound.ensures.fit w.reached)

pub returns : goal.returns
returns c =
    let w = c.args.self.now in
    let facts : worlds.Facts =
    record {
      modules = c.programs_are_one.ensures.modules;
      entries = c.programs_are_one.ensures.entries;
      threads =
          c.threads_are_one.ensures;
    } in
    let within : c.args.thread < length w.threads.items = omega (arith, c.if-thread-threads.false, w.threads.ok.0) in
    let at : slice_get w.threads.items c.args.thread ≡ Some c.index-config.result.now =
    worlds.element_at w.threads.items c.args.thread c.index-config.result.now within c.index-config.ensures in
    worlds.shown facts w.program w.threads.items w.shared.words.items w.holders.items w.out.items c.args.thread
    c.index-config.result.now at c.state_at.result (rw c.deref.ensures.value at c.state_at.ensures)

pub returns-then-thread-threads : goal.returns-then-thread-threads
returns-then-thread-threads c = λ ms names v is.
    let w = c.args.self.now in
    let past : length w.threads.items ≤ c.args.thread = omega (arith, c.if-thread-threads.true, w.threads.ok.0) in
    ap state_shown
    (sym (worlds.no_thread w.program w.threads.items c.args.thread
    (worlds.none_past w.threads.items c.args.thread past) (env_of ms) v is.threads_are))

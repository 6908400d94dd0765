use Rattle.std.proofs.Common.{arith, ◌≡◌, ◌<◌, ◌++◌, Some, length, take, drop, slice_get}
use Rattle.std.proofs.lemmas.Result.{IfErr-weaker, on_err_weaker, on_ok_weaker}
use Rattle.cas_turn.proofs.Worlds as worlds
use Rattle.cas_turn.proofs.world.World.step.Goals as goal

pub turn-requires-clause-there : goal.turn-requires-clause-there
turn-requires-clause-there c =
    let w = c.args.self.now in
    let facts : worlds.Facts =
    record {
      modules = c.programs_are_one.ensures.modules;
      entries = c.programs_are_one.ensures.entries;
      threads =
          c.threads_are_one.ensures;
    } in
    let within : c.args.thread < length w.threads.items = omega (arith, c.requires, w.threads.ok.0) in
    let at : slice_get w.threads.items c.args.thread ≡ Some c.index_mut.result.now =
    worlds.element_at w.threads.items c.args.thread c.index_mut.result.now within c.index_mut.ensures.value in
    worlds.is_there facts w.program w.threads.items w.shared.words.items w.holders.items w.out.items c.args.thread
    c.index_mut.result.now at w.reached

pub turn-requires-clause-may : goal.turn-requires-clause-may
turn-requires-clause-may c =
    let w = c.args.self.now in
    let facts : worlds.Facts =
    record {
      modules = c.programs_are_one.ensures.modules;
      entries = c.programs_are_one.ensures.entries;
      threads =
          c.threads_are_one.ensures;
    } in
    let within : c.args.thread < length w.threads.items = omega (arith, c.requires, w.threads.ok.0) in
    let at : slice_get w.threads.items c.args.thread ≡ Some c.index_mut.result.now =
    worlds.element_at w.threads.items c.args.thread c.index_mut.result.now within c.index_mut.ensures.value in
    rw c.deref_mut.ensures.value (worlds.may facts w.program w.threads.items w.shared.words.items w.holders.items
    w.out.items c.args.thread c.index_mut.result.now at c.worlds_are_sound.ensures.fit w.reached)

pub invariant_of-self : goal.invariant_of-self
invariant_of-self c =
    let w = c.args.self.now in
    let facts : worlds.Facts =
    record {
      modules = c.programs_are_one.ensures.modules;
      entries = c.programs_are_one.ensures.entries;
      threads =
          c.threads_are_one.ensures;
    } in
    let within : c.args.thread < length w.threads.items = omega (arith, c.requires, w.threads.ok.0) in
    let at : slice_get w.threads.items c.args.thread ≡ Some c.index_mut.result.now =
    worlds.element_at w.threads.items c.args.thread c.index_mut.result.now within c.index_mut.ensures.value in
    let written : take w.holders.len (c.turn.new.holders ++ drop (length c.turn.new.holders) w.holders.items)
    ≡ c.turn.new.holders =
    worlds.all_written w.holders.len c.turn.new.holders _ (omega (arith, c.turn.auto.holders, c.deref_mut.ensures.len))
    in
    let told = rw c.deref_mut.ensures.value at c.turn.ensures in
    record {
      numbered = c.args.self.now.numbered;
      reached = rw written (worlds.either_way c.turn.result told.taken told.unmoved
          (λ takes. worlds.taken_reached facts w.program w.threads.items w.shared.words.items w.holders.items
          w.out.items c.args.thread c.index_mut.result.now at c.turn.new.config c.turn.new.shared.words.items
          c.turn.new.holders c.turn.new.out.items takes w.reached)
          (λ stays. worlds.unmoved_reached facts w.program w.threads.items w.shared.words.items w.holders.items
          w.out.items c.args.thread c.index_mut.result.now at c.turn.new.config c.turn.new.shared.words.items
          c.turn.new.holders c.turn.new.out.items stays w.reached));
    }

pub returns-clause-taken : goal.returns-clause-taken
returns-clause-taken c =
    let w = c.args.self.now in
    let facts : worlds.Facts =
    record {
      modules = c.programs_are_one.ensures.modules;
      entries = c.programs_are_one.ensures.entries;
      threads =
          c.threads_are_one.ensures;
    } in
    let within : c.args.thread < length w.threads.items = omega (arith, c.requires, w.threads.ok.0) in
    let at : slice_get w.threads.items c.args.thread ≡ Some c.index_mut.result.now =
    worlds.element_at w.threads.items c.args.thread c.index_mut.result.now within c.index_mut.ensures.value in
    let written : take w.holders.len (c.turn.new.holders ++ drop (length c.turn.new.holders) w.holders.items)
    ≡ c.turn.new.holders =
    worlds.all_written w.holders.len c.turn.new.holders _ (omega (arith, c.turn.auto.holders, c.deref_mut.ensures.len))
    in
    let told = rw c.deref_mut.ensures.value at c.turn.ensures in
    on_ok_weaker c.turn.result (λ takes ms names v is. rw written
    (worlds.taken facts w.program w.threads.items w.shared.words.items w.holders.items w.out.items c.args.thread
    c.index_mut.result.now at c.turn.new.config c.turn.new.shared.words.items c.turn.new.holders
    c.turn.new.out.items takes ms names v is)) told.taken

pub returns-clause-unmoved : goal.returns-clause-unmoved
returns-clause-unmoved c =
    let w = c.args.self.now in
    let facts : worlds.Facts =
    record {
      modules = c.programs_are_one.ensures.modules;
      entries = c.programs_are_one.ensures.entries;
      threads =
          c.threads_are_one.ensures;
    } in
    let within : c.args.thread < length w.threads.items = omega (arith, c.requires, w.threads.ok.0) in
    let at : slice_get w.threads.items c.args.thread ≡ Some c.index_mut.result.now =
    worlds.element_at w.threads.items c.args.thread c.index_mut.result.now within c.index_mut.ensures.value in
    let written : take w.holders.len (c.turn.new.holders ++ drop (length c.turn.new.holders) w.holders.items)
    ≡ c.turn.new.holders =
    worlds.all_written w.holders.len c.turn.new.holders _ (omega (arith, c.turn.auto.holders, c.deref_mut.ensures.len))
    in
    let told = rw c.deref_mut.ensures.value at c.turn.ensures in
    on_err_weaker c.turn.result (λ stays ms names v is. rw written
    (worlds.unmoved facts w.program w.threads.items w.shared.words.items w.holders.items w.out.items c.args.thread
    c.index_mut.result.now at c.turn.new.config c.turn.new.shared.words.items c.turn.new.holders
    c.turn.new.out.items stays ms names v is)) told.unmoved

pub returns-clause-answer : goal.returns-clause-answer
returns-clause-answer c =
    let w = c.args.self.now in
    let facts : worlds.Facts =
    record {
      modules = c.programs_are_one.ensures.modules;
      entries = c.programs_are_one.ensures.entries;
      threads =
          c.threads_are_one.ensures;
    } in
    let within : c.args.thread < length w.threads.items = omega (arith, c.requires, w.threads.ok.0) in
    let at : slice_get w.threads.items c.args.thread ≡ Some c.index_mut.result.now =
    worlds.element_at w.threads.items c.args.thread c.index_mut.result.now within c.index_mut.ensures.value in
    let written : take w.holders.len (c.turn.new.holders ++ drop (length c.turn.new.holders) w.holders.items)
    ≡ c.turn.new.holders =
    worlds.all_written w.holders.len c.turn.new.holders _ (omega (arith, c.turn.auto.holders, c.deref_mut.ensures.len))
    in
    let told = rw c.deref_mut.ensures.value at c.turn.ensures in
    IfErr-weaker c.turn.result _ _
    (λ answer told ms names v is. worlds.answers facts w.program w.threads.items w.shared.words.items
    w.holders.items w.out.items c.args.thread c.index_mut.result.now at answer told ms names v is) told.answer

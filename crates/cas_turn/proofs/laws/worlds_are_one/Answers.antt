use Rattle.cas_turn.proofs.Worlds as worlds
use Rattle.cas_turn.proofs.laws.worlds_are_one.Goals as goal

pub returns-clause-worlds : goal.returns-clause-worlds
returns-clause-worlds c = λ world ms others names more w v is other.
    let facts : worlds.Facts =
    record {
      modules = c.programs_are_one.ensures.modules;
      entries = c.programs_are_one.ensures.entries;
      threads =
          c.threads_are_one.ensures;
    } in
    worlds.world_is_one facts world.program world.threads.items world.shared.words.items world.holders.items
    world.out.items ms others names more w v is other

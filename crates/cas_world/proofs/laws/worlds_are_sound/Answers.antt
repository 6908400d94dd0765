use Rattle.cas_world.proofs.Sound_worlds as fitting
use Rattle.cas_world.proofs.laws.worlds_are_sound.Goals as goal

pub returns : goal.returns
returns c =
    let facts : fitting.Facts = record {
      well_formed = c.environments_are_well_formed.ensures;
      entered = c.entries_are_entered.ensures.entered;
      words = c.initial_store_is_well_typed.ensures.words;
      declared = c.guards_are_locks.ensures.locks;
      sound = c.reachable_threads_are_sound.ensures;
      steps = c.progress_and_preservation.ensures;
    } in
    record { fit = fitting.worlds_are_sound facts; ends = fitting.ends_are_told (fitting.worlds_are_sound facts) }

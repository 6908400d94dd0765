use Rattle.cas_world.proofs.Races as races
use Rattle.cas_world.proofs.laws.worlds_are_owned.Goals as goal

pub returns : goal.returns
returns c =
    let laws : races.Laws = record {
      well_formed = c.environments_are_well_formed.ensures;
      bodies = c.typed_modules_have_bodies.ensures.bodies;
      shared_ones = c.guards_are_locks.ensures.shared_ones;
      guards = c.guards_are_locks.ensures.guards;
      names = c.guards_are_locks.ensures.names;
      functions = c.declarations_agree.ensures.functions;
      entries = c.entries_are_entered.ensures.none_held;
      footprints = c.footprints_are_named.ensures;
    } in
    record { reached = races.worlds_are_owned laws; kept = races.steps_keep_owned laws }

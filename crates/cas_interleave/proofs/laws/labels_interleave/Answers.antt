use Rattle.cas_interleave.proofs.Failing.{bad_is_bad}
use Rattle.cas_interleave.proofs.Going.{Laws}
use Rattle.cas_interleave.proofs.Leading.{labels_interleave}
use Rattle.cas_interleave.proofs.laws.labels_interleave.Goals as goal

pub returns : goal.returns
returns c =
    let laws : Laws = record {
      agree = c.threads_agree.ensures.steps;
      frame = c.threads_agree.ensures.frame;
      start = c.threads_agree.ensures.starts;
      sound = c.worlds_are_sound.ensures.fit;
      touches = c.touches_are_guarded.ensures;
      unlocks = c.unlocks_are_of_holders.ensures;
      in_order = c.entries_are_entered.ensures.in_order;
      entered = c.entries_are_entered.ensures.entered;
      store = c.initial_store_is_well_typed.ensures.words;
    } in
    record {
      interleaved = labels_interleave laws;
      bad = bad_is_bad laws c.guards_are_locks.ensures.shared_ones;
    }

use Rattle.std.proofs.Common.{◌≡◌, length}
use Rattle.cas_tso.specs.State.{State}
use Rattle.cas_exec.specs.Schedule.{Follows, unrolled}
use Rattle.cas_exec.proofs.schedule.follow.Given as goal

-- the choices of the items that are left lead from here to where all of them lead
abbrev pub invariant-items : goal.invariant-items
invariant-items l = record {
  setup : l.machine.setup ≡ l.fn.machine.setup;
  left : (t : State) → Follows l.fn.machine.setup (unrolled l.rest) l.machine.state t →
      Follows l.fn.machine.setup (unrolled l.fn.items) l.fn.machine.state t;
}

abbrev pub decreases-items : goal.decreases-items
decreases-items l = length l.rest

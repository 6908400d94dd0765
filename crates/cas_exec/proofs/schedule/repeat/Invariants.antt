use Rattle.std.proofs.Common.{◌≡◌, replicate}
use Rattle.cas_tso.specs.State.{State}
use Rattle.cas_exec.specs.Schedule.{Follows}
use Rattle.cas_exec.proofs.schedule.repeat.Given as goal

-- what is left of the choices leads from here to where all of them lead
abbrev pub invariant-times : goal.invariant-times
invariant-times l = record {
  setup : l.machine.setup ≡ l.fn.machine.setup;
  left : (t : State) → Follows l.fn.machine.setup (replicate l.left l.choice) l.machine.state t →
      Follows l.fn.machine.setup (replicate l.count l.choice) l.fn.machine.state t;
}

abbrev pub decreases-times : goal.decreases-times
decreases-times l = l.left

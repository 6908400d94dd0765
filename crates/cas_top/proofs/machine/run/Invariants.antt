use Rattle.std.proofs.Common.{◌≡◌, None, length, ◌-◌}
use Rattle.cas_top.specs.Machine.{start, Runs}
use Rattle.cas_top.proofs.machine.run.Given as goal

abbrev pub invariant-loop-machine : goal.invariant-loop-machine
invariant-loop-machine l = record { reached : Runs l.code (start 0) l.machine; going : l.machine.end ≡ None }

abbrev pub decreases-loop-machine : goal.decreases-loop-machine
decreases-loop-machine l = length l.code - l.machine.place

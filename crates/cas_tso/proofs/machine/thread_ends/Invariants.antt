use Rattle.std.proofs.Common.{◌≡◌, map, take}
use Rattle.cas_tso.specs.Report.{thread_end}
use Rattle.cas_tso.proofs.machine.thread_ends.Given as goal

abbrev pub invariant-loop-core : goal.invariant-loop-core
invariant-loop-core l = l.ends.items ≡ map thread_end (take l.core-index l.threads)

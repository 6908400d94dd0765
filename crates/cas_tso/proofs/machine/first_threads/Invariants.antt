use Rattle.std.proofs.Common.{◌≡◌, ◌++◌, drop}
use Rattle.cas_tso.specs.Run.{threads_from}
use Rattle.cas_tso.specs.State.{setup}
use Rattle.cas_tso.proofs.machine.first_threads.Given as goal

abbrev pub invariant-loop-thread : goal.invariant-loop-thread
invariant-loop-thread l =
    l.threads.items ++ threads_from (setup l.image l.options) l.thread (drop l.thread l.image.entries) ≡ threads_from
    (setup l.image l.options) 0 l.image.entries

use Rattle.std.proofs.Common.{◌≡◌, ℕ, ◌<◌, Some, true, slice_get}
use Rattle.cas_tso.specs.State.{Thread}
use Rattle.cas_tso.specs.Timed.{has_finished}
use Rattle.cas_tso.proofs.machine.are_finished.Given as goal

abbrev pub invariant-loop-core : goal.invariant-loop-core
invariant-loop-core l = (i : ℕ) (c : Thread) → i < l.core-index → slice_get l.threads i ≡ Some c → has_finished c ≡ true

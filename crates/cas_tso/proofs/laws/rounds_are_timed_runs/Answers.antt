use Rattle.std.proofs.Common.{ℕ, List, []}
use Rattle.cas_tso.specs.Run.{Run, start_state}
use Rattle.cas_tso.specs.Run.{at_start as starts, and_step as steps}
use Rattle.cas_tso.specs.State.{Setup, State}
use Rattle.cas_tso.specs.Step.{Act}
use Rattle.cas_tso.specs.Timed.{TimedRun, at_start, and_step}
use Rattle.cas_tso.proofs.Rounding.{rounds_timed}
use Rattle.cas_tso.proofs.laws.rounds_are_timed_runs.Goals as goal

timed_run : (p : Setup) (acts : List (ℕ × Act)) (s : State) → TimedRun p acts s → Run p acts s
timed_run p acts s at_start = starts
timed_run p acts s (and_step r i a t step) = steps (timed_run p _ _ r) i a s step.0

pub returns-clause-run : goal.returns-clause-run
returns-clause-run c = timed_run

pub returns-clause-rounds : goal.returns-clause-rounds
returns-clause-rounds c = λ p s r. rounds_timed p (start_state p) s ([], at_start) r

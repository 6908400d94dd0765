-- Reports of runs: of an ended timed run, and of the choices of a schedule.
use Rattle.std.specs.Prelude.{◌≡◌, ℕ, List}
use Rattle.cas_exec.specs.Schedule.{Follows}
use Rattle.cas_tso.specs.Report.{report_of}
use Rattle.cas_tso.specs.Run.{start_state}
use Rattle.cas_tso.specs.State.{Setup, State}
use Rattle.cas_tso.specs.Step.{Act}
use Rattle.cas_tso.specs.Timed.{IsEnded, TimedRun}
use Rattle.cas_tso.specs.declared.refused.Choice.{Choice}
use Rattle.cas_tso.specs.declared.report.Report.{Report}

-- the report of a state that an ended timed run reaches
abbrev pub IsExecuted : Setup → Report → Type 0
IsExecuted p report =
    (acts : List (ℕ × Act)) × (s : State) × TimedRun p acts s × IsEnded s × (report ≡ report_of s)

-- the report of the state to which these choices lead from the start
abbrev pub IsSimulated : Setup → List Choice → Report → Type 0
IsSimulated p choices report = (s : State) × Follows p choices (start_state p) s × (report ≡ report_of s)

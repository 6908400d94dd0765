-- What the counts of a thread and the output are of the acts of a run.
use Rattle.std.specs.Prelude.{ℕ, ◌+◌, zero, suc, List, [], ◌∷◌, if◌then◌else◌, nat_eq}
use Rattle.cas_tso.specs.State.{Counts, no_counts}
use Rattle.cas_tso.specs.Step.{Act, plain, forwarded, loaded, stored, drained, decremented, printed, stopped, output_after}

-- the counts after one act more: each instruction is executed; a load from the buffer or from memory is a load, and one
-- from the buffer is forwarded
abbrev pub tallied : Act → Counts → Counts
tallied plain n = record n { executed = n.executed + 1 }
tallied (forwarded at word) n =
    record n { executed = n.executed + 1; loads = n.loads + 1; forwarded = n.forwarded + 1 }
tallied (loaded at word) n = record n { executed = n.executed + 1; loads = n.loads + 1 }
tallied (stored at value) n = record n { executed = n.executed + 1 }
tallied (drained at value) n = record n { drains = n.drains + 1 }
tallied (decremented at word) n = record n { executed = n.executed + 1 }
tallied (printed ticket word) n = record n { executed = n.executed + 1; outs = n.outs + 1 }
tallied (stopped read e) n = n

-- the counts of the thread i over the acts of a run, the newest first
abbrev pub tally : (thread : ℕ) → List (ℕ × Act) → Counts
tally i [] = no_counts
tally i (step ∷ steps) = if nat_eq step.0 i then tallied step.1 (tally i steps) else tally i steps

-- what the `out`s of a run put out, the oldest first
abbrev pub outputs_of : List (ℕ × Act) → List (ℕ × ℕ)
outputs_of [] = []
outputs_of (step ∷ steps) = output_after step.0 step.1 (outputs_of steps)

-- the ticket of an act, if it is an `out`, before these
abbrev pub ticket_before : Act → List ℕ → List ℕ
ticket_before (printed ticket word) tickets = ticket ∷ tickets
ticket_before _ tickets = tickets

-- the tickets of the `out`s of a run, the newest first
abbrev pub tickets_of : List (ℕ × Act) → List ℕ
tickets_of [] = []
tickets_of (step ∷ steps) = ticket_before step.1 (tickets_of steps)

-- the numbers below n, the greatest first
abbrev pub down_from : ℕ → List ℕ
down_from zero = []
down_from (suc n) = n ∷ down_from n

-- Timed runs: each store stays in its buffer until it is due, and is drained then.
use Rattle.std.specs.Prelude.{◌≡◌, ℕ, ◌-◌, Bool, true, false, ◌||◌, List, [], ◌∷◌, length, Option, Some, None, nat_eq, nat_lt, nat_le, slice_get}
use Rattle.cas_asm.specs.Ask.{ask_of}
use Rattle.cas_asm.specs.declared.ask.Ask.{Ask}
use Rattle.cas_asm.specs.declared.ask.Ask.TheVariants as ask
use Rattle.cas_asm.specs.declared.image.Image.{Image}
use Rattle.cas_tso.specs.Run.{start_state}
use Rattle.cas_tso.specs.State.{Setup, State, Thread, room}
use Rattle.cas_tso.specs.Step.{Act, drained, Step}
use Rattle.cas_tso.specs.declared.end.End.{End}
use Rattle.cas_tso.specs.declared.end.End.TheVariants as end
use Rattle.cas_tso.specs.declared.pending.Pending.{Pending}

-- an instruction that asks for this can't be executed before the oldest store is drained: it stores where the buffer is
-- full, or
-- is locked where the buffer isn't empty
abbrev pub must_drain : Ask → List Pending → Bool
must_drain (ask.Store at value) b = nat_le room (length b)
must_drain (ask.LockedDec at) b = nat_lt 0 (length b)
must_drain _ b = false

-- whether the oldest of these stores is due, by the thread's end: the thread is Done, or it has no end, and `hold`
-- further
-- instructions were executed after it, or it must be drained before the next
abbrev pub is_due_at : Image → (hold : ℕ) → Thread → List Pending → Option End → Bool
is_due_at m hold c [] ended = false
is_due_at m hold c (x ∷ xs) None = nat_le hold (c.counts.executed - x.entered) || must_drain (ask_of m c.cpu None)
    (x ∷ xs)
is_due_at m hold c (x ∷ xs) (Some end.Done) = true
is_due_at m hold c (x ∷ xs) (Some _) = false

-- a store of the thread is due; stores become due in the order in which they entered, so this is the oldest
abbrev pub is_due : Image → (hold : ℕ) → Thread → Bool
is_due m hold c = is_due_at m hold c c.buffer c.ended

-- the thread may do this in time: a store that is due is drained before all else, and no other is drained
abbrev pub IsInTime : Setup → Thread → Act → Type 0
IsInTime p c (drained at value) = is_due p.image p.options.hold c ≡ true
IsInTime p c _ = is_due p.image p.options.hold c ≡ false

-- a step of a timed run
abbrev pub TimedStep : Setup → State → (thread : ℕ) → Act → State → Type 0
TimedStep p s i a t = Step p s i a t × ((c : Thread) → slice_get s.threads i ≡ Some c → IsInTime p c a)

-- a run, each step of which is in time
pub data TimedRun (p : Setup) : List (ℕ × Act) → State → Type 0 where
  at_start : TimedRun p [] (start_state p)
  and_step : {steps : List (ℕ × Act)} {s : State} → TimedRun p steps s →
      (i : ℕ) (a : Act) (t : State) → TimedStep p s i a t → TimedRun p ((i, a) ∷ steps) t

-- nothing is left to drain of a thread with this end: its buffer is empty if it is Done, and else it drains no more
abbrev pub is_drained : End → List Pending → Bool
is_drained end.Done b = nat_eq (length b) 0
is_drained _ b = true

-- the thread has an end, and nothing is left to drain of it
abbrev pub has_finished_at : Option End → List Pending → Bool
has_finished_at None b = false
has_finished_at (Some e) b = is_drained e b

abbrev pub has_finished : Thread → Bool
has_finished c = has_finished_at c.ended c.buffer

-- each of these threads has an end, and nothing is left to drain of it
abbrev pub AreFinished : List Thread → Type 0
AreFinished ts = (i : ℕ) (c : Thread) → slice_get ts i ≡ Some c → has_finished c ≡ true

-- each thread has an end, and each Done thread's buffer is empty
abbrev pub IsEnded : State → Type 0
IsEnded s = AreFinished s.threads

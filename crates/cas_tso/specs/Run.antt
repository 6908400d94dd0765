-- Runs of the machine: lists of steps from the start state.
use Rattle.std.specs.Prelude.{ℕ, ◌+◌, List, [], ◌∷◌, Option, Some, None, if◌then◌else◌, nat_eq}
use Rattle.cas_asm.specs.Start.{start_of}
use Rattle.cas_tso.specs.State.{Setup, State, Thread, no_counts}
use Rattle.cas_tso.specs.Step.{Act, Step}
use Rattle.cas_tso.specs.declared.end.End.{End}
use Rattle.cas_tso.specs.declared.end.End.TheVariants as end
use Rattle.cas_tso.specs.declared.options.Options.{Options}

-- with no fuel a thread ends before its first instruction
abbrev pub first_end : Options → Option End
first_end o = if nat_eq o.fuel 0 then Some end.Fuel else None

-- a thread before its first instruction
abbrev pub first_thread : Setup → (thread : ℕ) → Thread
first_thread p i = record {
  cpu = start_of p.image i p.options.stack;
  buffer = [];
  counts = no_counts;
  ended = first_end p.options;
}

-- the threads from this one on, one for each entry
abbrev pub threads_from : Setup → (thread : ℕ) → (entries : List ℕ) → List Thread
threads_from p i [] = []
threads_from p i (_ ∷ es) = first_thread p i ∷ threads_from p (i + 1) es

-- the start state: the image's words, no output, and one thread for each entry
abbrev pub start_state : Setup → State
start_state p = record { memory = p.image.words; output = []; threads = threads_from p 0 p.image.entries }

-- a run: a list of steps, each a thread and its act, the newest first, leads from the start state to this one
pub data Run (p : Setup) : List (ℕ × Act) → State → Type 0 where
  at_start : Run p [] (start_state p)
  and_step : {steps : List (ℕ × Act)} {s : State} → Run p steps s →
      (i : ℕ) (a : Act) (t : State) → Step p s i a t → Run p ((i, a) ∷ steps) t

-- some run reaches this state
abbrev pub Reaches : Setup → State → Type 0
Reaches p s = (steps : List (ℕ × Act)) × Run p steps s

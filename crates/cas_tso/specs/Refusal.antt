-- Choices of what to do next, and when they are refused.
use Rattle.std.specs.Prelude.{◌≡◌, ⊤, ℕ, List, [], ◌∷◌, Option, Some, None, if◌then◌else◌}
use Rattle.cas_asm.specs.Ask.{ask_of}
use Rattle.cas_asm.specs.declared.image.Image.{Image}
use Rattle.cas_tso.specs.State.{Setup, State, Thread}
use Rattle.cas_tso.specs.Step.{Act, drained, Agrees, Step, Takes, memory_after, output_after}
use Rattle.cas_tso.specs.Timed.{must_drain}
use Rattle.cas_tso.specs.declared.end.End.{End}
use Rattle.cas_tso.specs.declared.pending.Pending.{Pending}
use Rattle.cas_tso.specs.declared.refused.Choice.{Choice}
use Rattle.cas_tso.specs.declared.refused.Choice.TheVariants as choice
use Rattle.cas_tso.specs.declared.refused.Refused.{Refused}
use Rattle.cas_tso.specs.declared.refused.Refused.TheVariants as refused

abbrev pub thread_of : Choice → ℕ
thread_of (choice.Run i) = i
thread_of (choice.Drain i) = i

-- why the thread's next instruction, or its end in place of it, isn't to be had
abbrev pub refused_run : Image → Thread → Option End → Option Refused
refused_run m c (Some e) = Some refused.Ended
refused_run m c None = if must_drain (ask_of m c.cpu None) c.buffer then Some refused.MustDrain else None

abbrev pub refused_drain : List Pending → Option Refused
refused_drain [] = Some refused.NothingToDrain
refused_drain (x ∷ xs) = None

-- why the choice is refused where its thread is this
abbrev pub refused_choice : Image → Thread → Choice → Option Refused
refused_choice m c (choice.Run i) = refused_run m c c.ended
refused_choice m c (choice.Drain i) = refused_drain c.buffer

abbrev pub IsDrain : Act → Type 0
IsDrain (drained at value) = ⊤
IsDrain _ = ⊥

-- a thread with the memory and the output, of which an act of the thread may change nothing else
pub record Part : Type 0 where
  pub thread : Thread
  pub memory : List ℕ
  pub output : List (ℕ × ℕ)

abbrev pub part : Thread → (memory : List ℕ) → (output : List (ℕ × ℕ)) → Part
part c m o = record { thread = c; memory = m; output = o }

-- the thread i acts, which makes the one part the other
abbrev pub Acts : Setup → (thread : ℕ) → Act → Part → Part → Type 0
Acts p i a u v = Takes p u.thread a v.thread × Agrees a u.memory u.output
    × (v.memory ≡ memory_after a u.memory) × (v.output ≡ output_after i a u.output)

-- it executes an instruction, or ends
abbrev pub Goes : Setup → (thread : ℕ) → Part → Part → Type 0
Goes p i u v = (a : Act) × (IsDrain a → ⊥) × Acts p i a u v

-- it drains its oldest store
abbrev pub Drains : Setup → (thread : ℕ) → Part → Part → Type 0
Drains p i u v = (a : Act) × IsDrain a × Acts p i a u v

-- the act is one that was chosen: a drain, or else an instruction or an end
abbrev pub IsChosen : Choice → Act → Type 0
IsChosen (choice.Run i) a = IsDrain a → ⊥
IsChosen (choice.Drain i) a = IsDrain a

-- the state after a step that was chosen
abbrev pub StepsAs : Setup → State → Choice → State → Type 0
StepsAs p s choice t = (a : Act) × IsChosen choice a × Step p s (thread_of choice) a t

-- The labels that are listed along a run of the x86-TSO machine, how many instructions each thread executed outside the
-- lock object, and the run's state as threads beside the lock object have it.
use Rattle.std.specs.Prelude.{⊤, ◌≡◌, ℕ, ◌+◌, ◌*◌, ◌<◌, ◌≤◌, Bool, true, false, nat_eq, nat_lt, List, [], ◌∷◌, length, reverse, map, Option, Some, None, slice_get, slice_index_or, ◌⊎◌, if◌then◌else◌}
use Rattle.std.specs.List.{list_any}
use Rattle.std.proofs.Math.ListN.{get_or}
use Rattle.cas_base.specs.Word.{word_sub}
use Rattle.cas_asm.specs.declared.image.Image.{Image}
use Rattle.cas_asm.specs.declared.ask.Ask.{Ask}
use Rattle.cas_asm.specs.declared.ask.Ask.TheVariants as ask
use Rattle.cas_asm.specs.State.{State as Cpu}
use Rattle.cas_asm.specs.Start.{start_of, stack_of}
use Rattle.cas_tso.specs.State.{Setup, State, Thread}
use Rattle.cas_tso.specs.Step as step
use Rattle.cas_tso.specs.Step.{Act, asks}
use Rattle.cas_tso.specs.Run.{Run, at_start, and_step}
use Rattle.cas_tso.specs.declared.end.End.{End}
use Rattle.cas_tso.specs.declared.end.End.TheVariants as end
use Rattle.cas_tso.specs.declared.pending.Pending.{Pending}
use Rattle.cas_atomic.specs.Buffer.{Store, store, view, put}
use Rattle.cas_atomic.specs.Cells.{AreGuards, under, values}
use Rattle.cas_atomic.specs.Labels.{listed}
use Rattle.cas_atomic.specs.Atomic.{act}
use Rattle.cas_atomic.specs.Sound.{Unknown, Waits}
use Rattle.cas_runs.specs.Edge.{Edge, Cell, LockWord, SharedWord, TableWord}
use Rattle.cas_runs.specs.Label.{RunLabel, Lock, Unlock, Out, Done}
use Rattle.cas_runs.specs.Legal.{ThreadLabel, projection}
use Rattle.cas_atomic.specs.Buffered as buffered
use Rattle.cas_refine.specs.Object.{HasObject}
use Rattle.cas_refine.specs.Machine.{Core, core, World, world, Linked, setup, counted, in_object, lock_listed, unlock_listed}
use Rattle.cas_refine.specs.Sound.{AreExplained, IsBadNow}

-- Images.

-- the image's word at this place, of this value, is such a cell
abbrev pub IsCell : Image → (place word : ℕ) → Cell → Type 0
IsCell m k w (TableWord value) = (slice_index_or m.constant k false ≡ true) × (value ≡ w)
IsCell m k w LockWord =
    (slice_index_or m.constant k false ≡ false) × (list_any (nat_eq k) m.locks ≡ true) × (w ≡ 1)
IsCell m k w (SharedWord kind guard initial) =
    (slice_index_or m.constant k false ≡ false) × (list_any (nat_eq k) m.locks ≡ false)
    × (guard ≡ slice_index_or m.guards k None) × (initial ≡ w)

-- the words from this place on are these cells
abbrev pub AreCells : Image → (place : ℕ) → List ℕ → List Cell → Type 0
AreCells m k [] [] = ⊤
AreCells m k (w ∷ ws) (c ∷ cs) = IsCell m k w c × AreCells m (k + 1) ws cs
AreCells m k _ _ = ⊥

-- the image is linked with the accepted body of the lock object, which stands first; its words are the edge's; a lock's
-- word is 1 at first, and each guard is a lock
pub record IsLinked (m : Image) (edge : Edge) : Type 0 where
  pub object : HasObject m
  pub words : AreCells m 0 m.words edge.cells
  pub guards : AreGuards edge.cells

-- the words are below the stacks, and the stacks end within words
pub record HasRoom (p : Setup) : Type 0 where
  pub words : length p.image.words ≤ 65536
  pub stacks : stack_of (length p.image.entries + 1) p.options.stack + 4 < 4294967296
  pub threads : length p.image.entries ≤ 2147483648

-- a thread where it begins; of a number without an entry, the first one's
abbrev pub first_cpu : Setup → (thread : ℕ) → Cpu
first_cpu p i = start_of p.image (if nat_lt i (length p.image.entries) then i else 0) p.options.stack

abbrev pub linked : Edge → Setup → Linked
linked edge p = record { image = p.image; edge = edge; threads = length p.image.entries; first = first_cpu p }

-- States.

abbrev pub word_of : List ℕ → (at : ℕ) → ℕ
word_of m w = get_or m w 0

abbrev pub store_of : Pending → Store
store_of x = store x.at x.value

-- how a thread ended; that it has no fuel left is no end over atomic locks
abbrev pub end_of : Option End → buffered.End
end_of (Some end.Done) = buffered.IsDone
end_of (Some end.Stack) = buffered.IsFull
end_of (Some end.Outs) = buffered.OutOfOuts
end_of (Some (end.Bad why)) = buffered.HasFailed
end_of _ = buffered.Running

-- a thread that executed so many instructions outside the lock object
abbrev pub core_of : Thread → (outside : ℕ) → Core
core_of c n = core c.cpu (map store_of c.buffer) (end_of c.ended) n

abbrev pub core_in : Setup → (thread : ℕ) → (outside : ℕ) → Option Thread → Core
core_in p i n (Some c) = core_of c n
core_in p i n None = core (first_cpu p i) [] buffered.Running n

-- the state as tables, its output from the newest
abbrev pub tables : Setup → State → (outside : ℕ → ℕ) → World
tables p s n = world (word_of s.memory) (reverse s.output) (λ i. core_in p i (n i) (slice_get s.threads i))

-- Runs.

-- an instruction is executed
abbrev pub is_instruction : Act → Bool
is_instruction (step.drained at value) = false
is_instruction (step.stopped read e) = false
is_instruction _ = true

-- how many instructions the thread has executed outside the lock object after this act
abbrev pub outside_after : Option Thread → Act → ℕ → ℕ
outside_after None a n = n
outside_after (Some c) a n = if is_instruction a then counted c.cpu n else n

-- the outermost return is listed as Done
abbrev pub done_by : Ask → Option RunLabel
done_by ask.Finish = Some Done
done_by _ = None

-- what a thread sees of the words under a lock, and what memory has of them
abbrev pub seen_under : Edge → State → Thread → (lock : ℕ) → List ℕ
seen_under edge s c k = values (view (map store_of c.buffer) (word_of s.memory)) (under edge.cells 0 k)

abbrev pub memory_under : Edge → State → (lock : ℕ) → List ℕ
memory_under edge s k = values (word_of s.memory) (under edge.cells 0 k)

-- what is listed as a thread acts: Lock at the locked decrement of place 0 that gives 0, Unlock as the store of place 6
-- enters the buffer, Out at each output, Done at the outermost return
abbrev pub label_of : Edge → Setup → State → Option Thread → Act → Option RunLabel
label_of edge p s None a = None
label_of edge p s (Some c) step.plain = done_by (asks p c None)
label_of edge p s (Some c) (step.stored at value) =
    unlock_listed c.cpu.core.place (Unlock at (seen_under edge s c at))
label_of edge p s (Some c) (step.decremented at word) =
    lock_listed c.cpu.core.place (word_sub word 1) (Lock at (memory_under edge s at))
label_of edge p s (Some c) (step.printed ticket word) = Some (Out word)
label_of edge p s (Some c) _ = None

-- 1 for an instruction of the lock object
abbrev pub inside_at : Option Thread → Act → ℕ
inside_at None a = 0
inside_at (Some c) a = if is_instruction a then in_object c.cpu else 0

-- the labels of a run, the newest first
abbrev pub labels_of : {p : Setup} {steps : List (ℕ × Act)} {s : State} → Edge → Run p steps s → List ThreadLabel
labels_of edge at_start = []
labels_of {p = p} edge (and_step {s = s} r i a t step) =
    listed i (label_of edge p s (slice_get s.threads i) a) (labels_of edge r)

-- how many instructions each thread executed outside the lock object
abbrev pub outside_of : {p : Setup} {steps : List (ℕ × Act)} {s : State} → Run p steps s → ℕ → ℕ
outside_of at_start = λ j. 0
outside_of (and_step {s = s} r i a t step) =
    put i (outside_after (slice_get s.threads i) a (outside_of r i)) (outside_of r)

-- and how many of the lock object
abbrev pub inside_of : {p : Setup} {steps : List (ℕ × Act)} {s : State} → Run p steps s → ℕ → ℕ
inside_of at_start = λ j. 0
inside_of (and_step {s = s} r i a t step) =
    put i (inside_of r i + inside_at (slice_get s.threads i) a) (inside_of r)

-- Soundness.

-- a first part of the run leads to a state where a thread's next step over atomic locks is Bad
abbrev pub IsBadBefore : {p : Setup} {steps : List (ℕ × Act)} {s : State} → Edge → Unknown → Run p steps s → Type 0
IsBadBefore {p = p} {s = s} edge u at_start = IsBadNow (linked edge p) u (tables p s (λ j. 0)) []
IsBadBefore {p = p} {s = t} edge u (and_step r i a _ step) =
    IsBadBefore edge u r
    ⊎ IsBadNow (linked edge p) u (tables p t (outside_of (and_step r i a t step)))
    (labels_of edge (and_step r i a t step))

-- the labels explain the state of a run; and one thread alone waits for a lock that it holds, or has executed at most
-- three instructions of the lock object for each of its labels and for the next
pub record IsExplained (edge : Edge) (u : Unknown) {p : Setup} {steps : List (ℕ × Act)} {s : State}
    (r : Run p steps s) : Type 0 where
  pub labels : AreExplained (linked edge p) u (tables p s (outside_of r)) (labels_of edge r)
  pub alone : length p.image.entries ≡ 1 → Waits (act (setup (linked edge p)) (u 0) (labels.explains.follows 0).to.at)
      ⊎ (inside_of r 0 ≤ 3 * (length (projection 0 (labels_of edge r)) + 1))

-- for some values of what the lock object leaves unknown, the labels explain a run, or a first part of it leads to a
-- state where a thread's next step over atomic locks is Bad
abbrev pub IsSoundLock : Setup → Type 0
IsSoundLock p = (edge : Edge) → IsLinked p.image edge → HasRoom p →
    (steps : List (ℕ × Act)) (s : State) (r : Run p steps s) →
    (u : Unknown) × (IsExplained edge u r ⊎ IsBadBefore edge u r)

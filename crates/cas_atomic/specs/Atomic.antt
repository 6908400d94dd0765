-- Threads over atomic locks: a call of the lock object is one step. A thread's words are those of the locks that it
-- holds: Lock brings them, Unlock gives them back, and to touch another word is Bad.
use Rattle.std.specs.Prelude.{ℕ, suc, Bool, true, false, List, [], ◌∷◌, Option, Some, None, slice_get, slice_set}
use Rattle.cas_runs.specs.Label.{Share}
use Rattle.cas_runs.specs.Edge.{Cell, LockWord, SharedWord, TableWord}
use Rattle.cas_runs.specs.Machine as run
use Rattle.cas_runs.specs.Machine.{Act, Quiet, Emits, Locks, Bad, Stops, Ended, Taken, Full, Footprint, Machine}
use Rattle.cas_runs.specs.Access.{words_in, with_lock, without_lock, with_words, place_among, word_in}
use Rattle.cas_atomic.specs.Leftover.{Leftover, one_less}
use Rattle.cas_atomic.specs.Program.{After, Goes, Fails, Halts, Event, Plain, Load, Store, Decrement, CallLock, CallUnlock, Prints, Ends, Over, NoRoom, Wrong, Setup}

-- where a thread stands: at a state of its program, with these words, after so many labels
pub record Standing (X : Type 0) : Type 0 where
  pub at : X
  pub share : Share
  pub occasion : ℕ

abbrev pub standing : {X : Type 0} → X → Share → ℕ → Standing X
standing x share n = record { at = x; share = share; occasion = n }

abbrev pub goes : {X : Type 0} → Standing X → X → Standing X
goes b y = standing y b.share b.occasion

-- after a label
abbrev pub tells : {X : Type 0} → Standing X → Share → X → Standing X
tells b share y = standing y share (suc b.occasion)

abbrev pub loaded : {X : Type 0} → Standing X → After X → Act (Standing X)
loaded b (Goes y) = Quiet (goes b y)
loaded b Fails = Bad
loaded b Halts = Stops Full

abbrev pub loads_as : {X : Type 0} → Standing X → Option ℕ → (ℕ → After X) → Act (Standing X)
loads_as b None k = Bad
loads_as b (Some v) k = loaded b (k v)

-- a word of the share or of a table is read
abbrev pub loads : {X : Type 0} → List Cell → Standing X → Option Cell → (word : ℕ) → (ℕ → After X) → Act (Standing X)
loads cells b (Some (SharedWord kind (Some g) initial)) w k =
    loads_as b (word_in (words_in b.share g) (place_among cells g w)) k
loads cells b (Some (TableWord value)) w k = loaded b (k value)
loads cells b _ w k = Bad

-- how a word is changed, and how the program goes on by what it was
pub record Change (X : Type 0) : Type 0 where
  pub to : ℕ → ℕ
  pub next : ℕ → X

abbrev pub change : {X : Type 0} → (ℕ → ℕ) → (ℕ → X) → Change X
change f k = record { to = f; next = k }

abbrev pub changes_to : {X : Type 0} → Standing X → (lock : ℕ) → List ℕ → (place : ℕ) → Change X → Option ℕ →
    Act (Standing X)
changes_to b g words place c None = Bad
changes_to b g words place c (Some v) =
    Quiet (standing (c.next v) (with_words b.share g (slice_set words place (c.to v))) b.occasion)

abbrev pub changes_in : {X : Type 0} → Standing X → (lock place : ℕ) → Change X → Option (List ℕ) → Act (Standing X)
changes_in b g place c None = Bad
changes_in b g place c (Some words) = changes_to b g words place c (slice_get words place)

-- a word of the share is changed
abbrev pub changes : {X : Type 0} → List Cell → Standing X → Option Cell → (word : ℕ) → Change X → Act (Standing X)
changes cells b (Some (SharedWord kind (Some g) initial)) w c =
    changes_in b g (place_among cells g w) c (words_in b.share g)
changes cells b _ w c = Bad

abbrev pub is_lock : Option Cell → Bool
is_lock (Some LockWord) = true
is_lock _ = false

abbrev pub takes_if : {X : Type 0} → (ℕ → Leftover) → Standing X → ℕ → (Leftover → X) → (is_lock : Bool) →
    Option (List ℕ) → Act (Standing X)
takes_if u b l k true None = Locks l (λ words. tells b (with_lock b.share l words) (k (u b.occasion)))
takes_if u b l k true (Some words) = Stops (Taken l)
takes_if u b l k false words = Bad

abbrev pub gives_if : {X : Type 0} → (ℕ → Leftover) → Standing X → ℕ → (Leftover → X) → (is_lock : Bool) →
    Option (List ℕ) → Act (Standing X)
gives_if u b l k true (Some words) =
    Emits (run.Unlocks l words) (tells b (without_lock b.share l) (k (u b.occasion)))
gives_if u b l k true None = Bad
gives_if u b l k false words = Bad

-- what a thread does at an event. A call of the lock object leaves at each occasion what u says
abbrev pub act_by : {X : Type 0} → List Cell → (ℕ → Leftover) → Standing X → Event X → Act (Standing X)
act_by cells u b (Plain y) = Quiet (goes b y)
act_by cells u b (Load w k) = loads cells b (slice_get cells w) w k
act_by cells u b (Store w v y) = changes cells b (slice_get cells w) w (change (λ old. v) (λ old. y))
act_by cells u b (Decrement w k) = changes cells b (slice_get cells w) w (change one_less k)
act_by cells u b (CallLock l k) = takes_if u b l k (is_lock (slice_get cells l)) (words_in b.share l)
act_by cells u b (CallUnlock l k) = gives_if u b l k (is_lock (slice_get cells l)) (words_in b.share l)
act_by cells u b (Prints v y) = Emits (run.Prints v) (tells b b.share y)
act_by cells u b (Ends y) = Emits run.Ends (tells b b.share y)
act_by cells u b Over = Stops Ended
act_by cells u b NoRoom = Stops Full
act_by cells u b Wrong = Bad

abbrev pub act : {X : Type 0} → Setup X → (ℕ → Leftover) → Standing X → Act (Standing X)
act p u b = act_by p.edge.cells u b (p.next b.at)

abbrev pub touching : (reads writes : List ℕ) → Footprint
touching reads writes = record { reads = reads; writes = writes }

-- a word of a table may be read at any time, and leaves no trace
abbrev pub reading : Option Cell → (word : ℕ) → Footprint
reading (Some (TableWord value)) w = touching [] []
reading _ w = touching (w ∷ []) []

abbrev pub touched : {X : Type 0} → List Cell → Event X → Footprint
touched cells (Load w k) = reading (slice_get cells w) w
touched cells (Store w v y) = touching [] (w ∷ [])
touched cells (Decrement w k) = touching (w ∷ []) (w ∷ [])
touched cells _ = touching [] []

-- the thread i. (A processor doesn't know which functions are open.)
abbrev pub thread : {X : Type 0} → Setup X → (ℕ → Leftover) → (i : ℕ) → Machine (Standing X)
thread p u i = record {
  start = standing (p.first i) [] 0;
  act = act p u;
  price = λ b. 1;
  footprint = λ b. touched p.edge.cells (p.next b.at);
  activations = λ b. [];
  called = λ b. None;
}

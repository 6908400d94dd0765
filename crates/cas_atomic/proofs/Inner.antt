-- The same threads over atomic locks with the share as words and a set of locks, which the proofs go by.
use Rattle.std.specs.Prelude.{◌≡◌, ℕ, suc, nat_eq, Bool, true, false, List, [], ◌∷◌, Option, Some, slice_get, length, if◌then◌else◌}
use Rattle.cas_runs.specs.Label.{RunLabel, Lock}
use Rattle.cas_runs.specs.Edge.{Cell, SharedWord, TableWord}
use Rattle.cas_runs.specs.Machine as run
use Rattle.cas_runs.specs.Machine.{Act, Quiet, Emits, Locks, Bad, Stops, Ended, Taken, Full}
use Rattle.cas_atomic.specs.Leftover.{Leftover, one_less}
use Rattle.cas_atomic.specs.Buffer.{put}
use Rattle.cas_atomic.specs.Cells.{under, values}
use Rattle.cas_atomic.specs.Program.{Setup, Event, After, Goes, Fails, Halts, Plain, Load, Store, Decrement, CallLock, CallUnlock, Prints, Ends, Over, NoRoom, Wrong}
use Rattle.cas_atomic.specs.Atomic.{is_lock}

-- the words with these values at these numbers
abbrev pub with_values : List ℕ → List ℕ → (ℕ → ℕ) → ℕ → ℕ
with_values [] vs f w = f w
with_values (n ∷ ns) [] f w = f w
with_values (n ∷ ns) (v ∷ vs) f w = if nat_eq w n then v else with_values ns vs f w

-- where a thread over atomic locks stands
pub record Atomic (X : Type 0) : Type 0 where
  pub at : X
  pub words : ℕ → ℕ
  pub holds : ℕ → Bool
  pub occasion : ℕ
  pub steps : ℕ

abbrev pub atomic : {X : Type 0} → X → (ℕ → ℕ) → (ℕ → Bool) → ℕ → ℕ → Atomic X
atomic x ws h o n = record { at = x; words = ws; holds = h; occasion = o; steps = n }

-- what a word is to a thread with these locks: its own, a constant, or not to be touched
pub data Access : Type 0 where
  Mine : Access
  Constant : (value : ℕ) → Access
  Denied : Access

abbrev pub mine_if : Bool → Access
mine_if true = Mine
mine_if false = Denied

abbrev pub access_of : Option Cell → (ℕ → Bool) → Access
access_of (Some (SharedWord kind (Some g) initial)) h = mine_if (h g)
access_of (Some (TableWord value)) h = Constant value
access_of _ h = Denied

abbrev pub access : {X : Type 0} → Setup X → Atomic X → ℕ → Access
access p a w = access_of (slice_get p.edge.cells w) a.holds

abbrev pub goes : {X : Type 0} → Atomic X → X → Atomic X
goes a y = atomic y a.words a.holds a.occasion (suc a.steps)

abbrev pub told : {X : Type 0} → Atomic X → X → Atomic X
told a y = atomic y a.words a.holds (suc a.occasion) (suc a.steps)

abbrev pub writes : {X : Type 0} → Atomic X → ℕ → ℕ → X → Atomic X
writes a w v y = atomic y (put w v a.words) a.holds a.occasion (suc a.steps)

abbrev pub loaded : {X : Type 0} → Atomic X → After X → Act (Atomic X)
loaded a (Goes y) = Quiet (goes a y)
loaded a Fails = Bad
loaded a Halts = Stops Full

abbrev pub loads : {X : Type 0} → Atomic X → ℕ → (ℕ → After X) → Access → Act (Atomic X)
loads a w k Mine = loaded a (k (a.words w))
loads a w k (Constant v) = loaded a (k v)
loads a w k Denied = Bad

abbrev pub stores : {X : Type 0} → Atomic X → ℕ → ℕ → X → Access → Act (Atomic X)
stores a w v y Mine = Quiet (writes a w v y)
stores a w v y (Constant c) = Bad
stores a w v y Denied = Bad

abbrev pub locked : {X : Type 0} → Setup X → (ℕ → Leftover) → Atomic X → ℕ → (Leftover → X) → List ℕ → Atomic X
locked p u a l k ws = atomic (k (u a.occasion)) (with_values (under p.edge.cells 0 l) ws a.words) (put l true a.holds)
    (suc a.occasion) (suc a.steps)

abbrev pub takes_if : {X : Type 0} → Setup X → (ℕ → Leftover) → Atomic X → ℕ → (Leftover → X) → (is_lock holds : Bool) →
    Act (Atomic X)
takes_if p u a l k true false = Locks l (locked p u a l k)
takes_if p u a l k true true = Stops (Taken l)
takes_if p u a l k false h = Bad

abbrev pub unlocked : {X : Type 0} → (ℕ → Leftover) → Atomic X → ℕ → (Leftover → X) → Atomic X
unlocked u a l k = atomic (k (u a.occasion)) a.words (put l false a.holds) (suc a.occasion) (suc a.steps)

abbrev pub gives_if : {X : Type 0} → Setup X → (ℕ → Leftover) → Atomic X → ℕ → (Leftover → X) → (is_lock holds : Bool) →
    Act (Atomic X)
gives_if p u a l k true true = Emits (run.Unlocks l (values a.words (under p.edge.cells 0 l))) (unlocked u a l k)
gives_if p u a l k true false = Bad
gives_if p u a l k false h = Bad

abbrev pub act_by : {X : Type 0} → Setup X → (ℕ → Leftover) → Atomic X → Event X → Act (Atomic X)
act_by p u a (Plain y) = Quiet (goes a y)
act_by p u a (Load w k) = loads a w k (access p a w)
act_by p u a (Store w v y) = stores a w v y (access p a w)
act_by p u a (Decrement w k) = stores a w (one_less (a.words w)) (k (a.words w)) (access p a w)
act_by p u a (CallLock l k) = takes_if p u a l k (is_lock (slice_get p.edge.cells l)) (a.holds l)
act_by p u a (CallUnlock l k) = gives_if p u a l k (is_lock (slice_get p.edge.cells l)) (a.holds l)
act_by p u a (Prints v y) = Emits (run.Prints v) (told a y)
act_by p u a (Ends y) = Emits run.Ends (told a y)
act_by p u a Over = Stops Ended
act_by p u a NoRoom = Stops Full
act_by p u a Wrong = Bad

abbrev pub act : {X : Type 0} → Setup X → (ℕ → Leftover) → Atomic X → Act (Atomic X)
act p u a = act_by p u a (p.next a.at)

abbrev pub start : {X : Type 0} → Setup X → ℕ → Atomic X
start p i = atomic (p.first i) (λ w. 0) (λ l. false) 0 0

-- a run over atomic locks, with its labels, the newest first. A Lock may bring any words, as many as it guards
pub data AtomicRun {X : Type 0} (p : Setup X) (u : ℕ → Leftover) (i : ℕ) : List RunLabel → Atomic X → Type 0 where
  begins : AtomicRun p u i [] (start p i)
  quiet : {ls : List RunLabel} {a : Atomic X} (b : Atomic X) → AtomicRun p u i ls a → act p u a ≡ Quiet b →
      AtomicRun p u i ls b
  says : {ls : List RunLabel} {a : Atomic X} (v : run.Event) (b : Atomic X) → AtomicRun p u i ls a →
      act p u a ≡ Emits v b → AtomicRun p u i (run.label_of v ∷ ls) b
  locks : {ls : List RunLabel} {a : Atomic X} (l : ℕ) (f : List ℕ → Atomic X) (ws : List ℕ) → AtomicRun p u i ls a →
      act p u a ≡ Locks l f → length ws ≡ length (under p.edge.cells 0 l) → AtomicRun p u i (Lock l ws ∷ ls) (f ws)

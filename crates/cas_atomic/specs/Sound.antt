-- What it means that a lock object is sound.
use Rattle.std.specs.Prelude.{◌≡◌, ℕ, suc, ◌+◌, ◌*◌, ◌<◌, ◌≤◌, ◌⊎◌, List, [], length, Option, Some, None, slice_get}
use Rattle.cas_runs.specs.Label.{RunLabel}
use Rattle.cas_runs.specs.Edge.{TableWord}
use Rattle.cas_runs.specs.Machine as run
use Rattle.cas_runs.specs.Machine.{Act, Emits, Stops, Full, Taken, IsBad}
use Rattle.cas_runs.specs.Access.{words_in}
use Rattle.cas_runs.specs.Legal.{ThreadLabel, IsLegal, projection, state_of}
use Rattle.cas_runs.specs.Refines.{Reached}
use Rattle.cas_runs.specs.Rules.{HasEnded}
use Rattle.cas_atomic.specs.Leftover.{Leftover}
use Rattle.cas_atomic.specs.Buffer.{newest, put}
use Rattle.cas_atomic.specs.Cells.{IsLock, AreGuards}
use Rattle.cas_atomic.specs.Labels.{listed, outs_of}
use Rattle.cas_atomic.specs.AnyRun.{AnyRun, any_steps}
use Rattle.cas_atomic.specs.Object.{accepted}
use Rattle.cas_atomic.specs.Program.{Setup, CallLock, CallUnlock}
use Rattle.cas_atomic.specs.Atomic.{Standing, act, thread}
use Rattle.cas_atomic.specs.Buffered.{Point, Outside, Inside, End, Running, IsDone, OutOfFuel, IsFull, HasFailed, OutOfOuts, Thread, State, Step, inside, Run, opens, and_then, opening}
use Rattle.cas_atomic.specs.Table.{LockStands, refusals}

-- what a call of the lock object leaves, of each thread at each occasion
abbrev pub Unknown : Type 0
Unknown = ℕ → ℕ → Leftover

-- the thread over atomic locks, after so many steps, is beside one that has executed so many instructions outside the
-- lock object: outside it they are at the same state; in it, the one is at the call, whose step hasn't come yet, or
-- behind it
abbrev pub StandsBeside : {X : Type 0} → Setup X → X → (steps executed : ℕ) → Point X → Type 0
StandsBeside p x steps n (Outside y) = (x ≡ y) × (steps ≡ n)
StandsBeside p x steps n (Inside place f l k) =
    (((p.next x ≡ CallLock l k) ⊎ (p.next x ≡ CallUnlock l k)) × (suc steps ≡ n))
    ⊎ ((g : Leftover) × (x ≡ k g) × (steps ≡ n))

-- what an end tells of the thread's labels, and of where it stands over atomic locks
abbrev pub EndFits : {S : Type 0} → End → List RunLabel → Act S → Type 0
EndFits Running ls b = HasEnded ls → ⊥
EndFits IsDone ls b = HasEnded ls
EndFits OutOfFuel ls b = HasEnded ls → ⊥
EndFits IsFull ls b = (b ≡ Stops Full) × (HasEnded ls → ⊥)
EndFits HasFailed ls b = IsBad b × (HasEnded ls → ⊥)
EndFits {S = S} OutOfOuts ls b = ((v : ℕ) × (x : S) × (b ≡ Emits (run.Prints v) x)) × (HasEnded ls → ⊥)

-- a thread of the machine beside its run over atomic locks
pub record Follows {X : Type 0} (p : Setup X) (u : ℕ → Leftover) (i : ℕ) (c : Thread X)
    (ls : List RunLabel) : Type 0 where
  pub to : Reached (Standing X)
  pub run : AnyRun p.edge (thread p u i) ls to.blocks to.block to.at
  pub stands : StandsBeside p to.at.at (any_steps run) c.executed c.at
  pub ends : EndFits c.ended ls (act p u to.at)

-- how far the word of a lock may fall below 0, in a state
abbrev pub Depth : Type 0 → Type 0
Depth X = ℕ → State X → ℕ

-- the labels explain the state: they are legal, each thread over atomic locks has its own of them and stands beside the
-- machine's thread, each lock is in one of three states, and no table changes
pub record Explains {X : Type 0} (p : Setup X) (most : Depth X) (u : Unknown) (s : State X)
    (ls : List ThreadLabel) : Type 0 where
  pub follows : (i : ℕ) → Follows p (u i) i (s.threads i) (projection i ls)
  pub legal : IsLegal p.edge.cells p.threads ls
  pub outs : outs_of ls ≡ s.output
  pub locks : (l : ℕ) → IsLock p.edge.cells l → LockStands p.edge.cells l (record {
    buffers = λ j. (s.threads j).buffer;
    memory = s.memory;
    most = most l s;
    shares = λ j. words_in (follows j).to.at.share l;
    labelled = state_of p.edge.cells l ls;
  })
  pub tables : (w v : ℕ) → slice_get p.edge.cells w ≡ Some (TableWord v) →
      (s.memory w ≡ v) × ((j : ℕ) → newest (s.threads j).buffer w ≡ None)

-- and the next step of one of them is Bad
pub record IsBadAt {X : Type 0} (p : Setup X) (most : Depth X) (u : Unknown) (s : State X)
    (ls : List ThreadLabel) : Type 0 where
  pub explains : Explains p most u s ls
  pub thread : ℕ
  pub there : thread < p.threads
  pub bad : IsBad (act p (u thread) (explains.follows thread).to.at)

-- a first part of the run leads to a state where one is Bad
abbrev pub IsBadBefore : {X : Type 0} {p : Setup X} → Depth X → Unknown → {s : State X} {ls : List ThreadLabel} →
    Run p s ls → Type 0
IsBadBefore {p = p} most u opens = IsBadAt p most u (opening p) []
IsBadBefore {p = p} most u (and_then {ls = ls} i t o r below step may) =
    IsBadBefore most u r ⊎ IsBadAt p most u t (listed i o ls)

-- A lock object is sound: for some values of what its calls leave, each run is explained, or a first part of it is and
-- the next step of a thread is Bad. A lock's word falls no further than by the number of threads.
abbrev pub IsSound : {X : Type 0} → Setup X → Type 0
IsSound {X} p = AreGuards p.edge.cells → p.threads ≤ 2147483648 →
    (s : State X) (ls : List ThreadLabel) (r : Run p s ls) →
    (u : Unknown) × (Explains p (λ l t. p.threads) u s ls ⊎ IsBadBefore (λ l t. p.threads) u r)

-- The accepted body.

-- how many instructions of the lock object each thread has executed
abbrev pub one_inside : {X : Type 0} {p : Setup X} {s : State X} {i : ℕ} {t : State X} {o : Option RunLabel} →
    Step p s i t o → ℕ
one_inside (inside place f l k instr t o at is x) = 1
one_inside _ = 0

abbrev pub inside_of : {X : Type 0} {p : Setup X} {s : State X} {ls : List ThreadLabel} → Run p s ls → ℕ → ℕ
inside_of opens = λ j. 0
inside_of (and_then i t o r below step may) = put i (inside_of r i + one_inside step) (inside_of r)

-- the thread waits for a lock that it holds
abbrev pub Waits : {S : Type 0} → Act S → Type 0
Waits b = (lock : ℕ) × (b ≡ Stops (Taken lock))

abbrev pub refused_threads : {X : Type 0} → Setup X → Depth X
refused_threads p lock s = refusals p.threads lock s.threads

-- a state is explained; a lock's word falls no further than by the number of threads that are refused; and one thread
-- alone waits for a lock that it holds, or has executed at most three instructions of the lock object for each of its
-- labels and for the next
pub record IsExplained {X : Type 0} (p : Setup X) (u : Unknown) {s : State X} {ls : List ThreadLabel}
    (r : Run p s ls) : Type 0 where
  pub explains : Explains p (refused_threads p) u s ls
  pub alone : p.threads ≡ 1 → Waits (act p (u 0) (explains.follows 0).to.at)
      ⊎ (inside_of r 0 ≤ 3 * (length (projection 0 ls) + 1))

-- the accepted body is sound, and keeps these bounds
abbrev pub AcceptedIsSound : {X : Type 0} → Setup X → Type 0
AcceptedIsSound {X} p = p.object ≡ accepted → AreGuards p.edge.cells → p.threads ≤ 2147483648 →
    (s : State X) (ls : List ThreadLabel) (r : Run p s ls) →
    (u : Unknown) × (IsExplained p u r ⊎ IsBadBefore (refused_threads p) u r)

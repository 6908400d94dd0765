-- Which turns of threads lead along their labels: before each label the quiet steps of the block that it ends, and at
-- the end what each thread has done since, in order of threads.
--
--     labels   Lock 1 of thread 0      Unlock 1 of thread 0    ..
--     turns    0 0 0 .. 0              0 0 .. 0                ..    0 .. 0  1 .. 1  2 .. 2
--              quiet steps, and the    quiet steps, and the          the quiet steps since
--              step with the label     step with the label
use Rattle.std.specs.Prelude.{◌≡◌, ℕ, zero, suc, ◌+◌, ◌<◌, nat_eq, List, [], ◌∷◌, length, if◌then◌else◌}
use Rattle.cas_runs.specs.Label.{RunLabel}
use Rattle.cas_runs.specs.Edge.{Edge}
use Rattle.cas_runs.specs.Machine.{Quiet, Machine, StepsTo}
use Rattle.cas_runs.specs.Bounds.{total}
use Rattle.cas_runs.specs.Known.{set}
use Rattle.cas_runs.specs.Legal.{ThreadLabel, IsLegal, IsLegalNext, projection}

-- a run by its labels, by how many quiet steps each block had that they ended, and how many the last has
pub data Paced {S : Type 0} (edge : Edge) (m : Machine S) : List RunLabel → List ℕ → ℕ → S → Type 0 where
  at_start : Paced edge m [] [] 0 m.start
  goes_on : {ls : List RunLabel} {cs : List ℕ} {k : ℕ} {x : S} (y : S) → Paced edge m ls cs k x →
      m.act x ≡ Quiet y → Paced edge m ls cs (suc k) y
  goes_by : {ls : List RunLabel} {cs : List ℕ} {k : ℕ} {x : S} (l : RunLabel) (y : S) → Paced edge m ls cs k x →
      StepsTo edge ls (m.act x) l y → Paced edge m (l ∷ ls) (k ∷ cs) 0 y

-- so many turns of a thread, after these
abbrev pub after_turns : ℕ → ℕ → List ℕ → List ℕ
after_turns zero i is = is
after_turns (suc k) i is = i ∷ after_turns k i is

abbrev pub newest_of : List ℕ → ℕ
newest_of [] = 0
newest_of (c ∷ cs) = c

abbrev pub older_of : List ℕ → List ℕ
older_of [] = []
older_of (c ∷ cs) = cs

-- the turns up to the newest label, the newest first, where each thread's blocks had so many quiet steps
abbrev pub up_to : List ThreadLabel → (ℕ → List ℕ) → List ℕ
up_to [] cs = []
up_to (l ∷ ls) cs =
    l.thread ∷ after_turns (newest_of (cs l.thread)) l.thread (up_to ls (set cs l.thread (older_of (cs l.thread))))

-- and those since, of so many threads
abbrev pub since_then : ℕ → (ℕ → ℕ) → List ℕ → List ℕ
since_then zero ks is = is
since_then (suc m) ks is = after_turns (ks m) m (since_then m ks is)

-- how many turns are of this thread
abbrev pub turns_of : ℕ → List ℕ → ℕ
turns_of i [] = 0
turns_of i (j ∷ js) = if nat_eq j i then turns_of i js + 1 else turns_of i js

-- how many steps such a run has: the quiet ones, and one for each label
abbrev pub steps_of : (cs : List ℕ) (k : ℕ) → ℕ
steps_of cs k = total cs + length cs + k

-- turns, the newest first, lead from the first world to this
pub data Lead {W : Type 0} (moves : W → ℕ → W → Type 0) (first : W) : List ℕ → W → Type 0 where
  none_yet : Lead moves first [] first
  one_more : {is : List ℕ} {w : W} (i : ℕ) (v : W) → Lead moves first is w → moves w i v →
      Lead moves first (i ∷ is) v

module _ {S W : Type 0} (moves : W → ℕ → W → Type 0) (first : W)
    (agrees : W → List ThreadLabel → (ℕ → S) → Type 0) where
  -- What shows that worlds go along with labels of so many threads. `agrees w ls ys`: in the world w each thread stands
  -- where its run with its own of these labels does
  pub record GoAlong (edge : Edge) (n : ℕ) (s : ℕ → Machine S) : Type 0 where
    pub begins : agrees first [] (λ i. (s i).start)
    -- it speaks of the threads that are there
    pub same : (w : W) (ls : List ThreadLabel) (ys zs : ℕ → S) → agrees w ls ys →
        ((i : ℕ) → i < n → ys i ≡ zs i) → agrees w ls zs
    pub quietly : (w : W) (ls : List ThreadLabel) (ys : ℕ → S) (i : ℕ) (y : S) → i < n → agrees w ls ys →
        (s i).act (ys i) ≡ Quiet y → (v : W) × moves w i v × agrees v ls (set ys i y)
    pub labelled : (w : W) (ls : List ThreadLabel) (ys : ℕ → S) (i : ℕ) (l : RunLabel) (y : S) → i < n →
        IsLegal edge.cells n ls → agrees w ls ys → IsLegalNext edge.cells ls l →
        StepsTo edge (projection i ls) ((s i).act (ys i)) l y →
        (v : W) × moves w i v × agrees v (record { thread = i; label = l } ∷ ls) (set ys i y)

  -- these turns lead to a world in which each thread is where its run stands
  pub record Ordered (turns : List ℕ) (ls : List ThreadLabel) (ys : ℕ → S) : Type 0 where
    pub world : W
    pub leads : Lead moves first turns world
    pub stand : agrees world ls ys

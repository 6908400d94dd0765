-- Threads together: legal labels, and runs of all threads with their own of these labels. Threads go by numbers; what
-- is said of them is said of those that are there.
use Rattle.std.specs.Prelude.{◌≡◌, ℕ, ◌<◌, List, ◌++◌}
use Rattle.cas_runs.specs.Edge.{Edge, AreOfKinds, guarded}
use Rattle.cas_runs.specs.Machine.{Machine, IsBad}
use Rattle.cas_runs.specs.Legal.{ThreadLabel, Free, state_of, IsLegal, projection}
use Rattle.cas_runs.specs.Refines.{Comes, HasRun, Kept, Reached}

module _ {S : Type 0} (edge : Edge) (n : ℕ) (s : ℕ → Machine S) where
  -- each thread has a run with its own of these labels
  abbrev pub HaveRuns : List ThreadLabel → Type 0
  HaveRuns ls = (i : ℕ) → i < n → HasRun edge (s i) (projection i ls)

  -- the labels are legal, each thread has a run with its own of them, and that of one stands at a Bad step
  pub record BadAt (ls : List ThreadLabel) : Type 0 where
    pub legal : IsLegal edge.cells n ls
    pub others : HaveRuns ls
    pub thread : ℕ
    pub there : thread < n
    pub bad : Comes edge (s thread) (projection thread ls) (λ x. IsBad ((s thread).act x.at))

  -- so it is after the first of these labels
  pub record BadFirst (ls : List ThreadLabel) : Type 0 where
    pub since : List ThreadLabel
    pub before : List ThreadLabel
    pub prefix : ls ≡ since ++ before
    pub is_bad : BadAt before

  -- after legal labels of the threads a free lock has words of its kinds
  abbrev pub FreeInKind : Type 0
  FreeInKind = (ls : List ThreadLabel) → IsLegal edge.cells n ls → HaveRuns ls → (lock : ℕ) (words : List ℕ) →
      state_of edge.cells lock ls ≡ Free words → AreOfKinds words (guarded lock edge.cells)

-- each thread's run is kept by its source
abbrev pub AllKept : {T S : Type 0} → Edge → ℕ → (ℕ → Machine T) → (ℕ → Machine S) → List ThreadLabel →
    (ℕ → Reached T) → Type 0
AllKept edge n t s ls to = (i : ℕ) → i < n → Comes edge (s i) (projection i ls) (Kept (t i) (s i) (to i))

-- What a Lock brings is in kind, if the first words are and what threads give back is: so runs to which a Lock brings
-- any words are runs.
use Rattle.std.specs.Prelude.{ℕ, ◌<◌, List}
use Rattle.cas_runs.specs.Label.{Each, RunLabel, Lock, Unlock}
use Rattle.cas_runs.specs.Edge.{Edge, AreOfKinds, guarded}
use Rattle.cas_runs.specs.Machine.{Machine, Always}
use Rattle.cas_runs.specs.Legal.{ThreadLabel, IsLegal, projection}
use Rattle.cas_runs.specs.Refines.{Reached, Reaches}
use Rattle.cas_runs.specs.Unit.{IsInKind}
use Rattle.cas_atomic.specs.AnyRun.{AnyRun}

abbrev pub BringsInKind : Edge → RunLabel → Type 0
BringsInKind edge (Lock l words) = AreOfKinds words (guarded l edge.cells)
BringsInKind edge _ = Unit {0}

abbrev pub GivesInKind : Edge → RunLabel → Type 0
GivesInKind edge (Unlock l words) = AreOfKinds words (guarded l edge.cells)
GivesInKind edge _ = Unit {0}

-- what its runs give back is in kind
abbrev pub GivesBack : {S : Type 0} → Edge → Machine S → Type 0
GivesBack edge m = Always edge m (λ ls x. Each (GivesInKind edge) ls)

-- the runs of all threads, with any words, have legal labels
pub record RunTogether {S : Type 0} (edge : Edge) (n : ℕ) (t : ℕ → Machine S) (ls : List ThreadLabel)
    (to : ℕ → Reached S) : Type 0 where
  pub legal : IsLegal edge.cells n ls
  pub runs : (i : ℕ) → i < n → AnyRun edge (t i) (projection i ls) (to i).blocks (to i).block (to i).at

abbrev pub KindsFollow : {S : Type 0} → Edge → ℕ → (ℕ → Machine S) → Type 0
KindsFollow {S = S} edge n t =
    Each IsInKind edge.cells → ((i : ℕ) → i < n → GivesBack edge (t i)) → (ls : List ThreadLabel) (to : ℕ → Reached S) →
    RunTogether edge n t ls to → (i : ℕ) → i < n → Reaches edge (t i) (projection i ls) (to i)

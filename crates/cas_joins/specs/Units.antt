-- Programs of units, as far as labels tell of them. A unit that emits a Call or a Leave waits, and another receives it
-- as an Enter or a Back and runs. Units go by numbers, and a number without a unit is that of an empty one.
use Rattle.std.specs.Prelude.{◌≡◌, ℕ, ◌≤◌, List, [], ◌∷◌}
use Rattle.cas_runs.specs.Label.{RunLabel, Lock, Unlock, Out, Done, Enter, Back, Call, Leave}
use Rattle.cas_runs.specs.Edge.{Edge, most_live}
use Rattle.cas_runs.specs.Outside.{live_cells}
use Rattle.cas_runs.specs.Machine.{Opened, Machine, Stops, Ended, Block, Run, open_functions}
use Rattle.cas_runs.specs.Refines.{Subsequence}
use Rattle.cas_runs.specs.Known.{set}

-- what the units have emitted and received so far: which unit runs, the labels of each, and what else of it is known,
-- as which objects have crossed under which numbers and who waits for whom
pub record Talk (K : Type 0) : Type 0 where
  pub now : ℕ
  pub labels : ℕ → List RunLabel
  pub known : K

-- the unit that receives what another emits, the label by which it does, and what is known then
pub record Turn (K : Type 0) : Type 0 where
  pub to : ℕ
  pub receives : RunLabel
  pub known : K

-- the running unit has emitted this, or received it as a Lock, and goes on
abbrev pub emitted : {K : Type 0} → Talk K → RunLabel → Talk K
emitted h l = record { now = h.now; labels = set h.labels h.now (l ∷ h.labels h.now); known = h.known }

-- another unit has received it, and goes on
abbrev pub received : {K : Type 0} → Talk K → Turn K → Talk K
received h x = record {
  now = x.to;
  labels = set h.labels x.to (x.receives ∷ h.labels x.to);
  known = x.known;
}

-- there is room for the objects that the label brings
abbrev pub HasRoom : RunLabel → Type 0
HasRoom (Enter f crossing) = live_cells crossing.objects ≤ most_live
HasRoom (Back crossing) = live_cells crossing.objects ≤ most_live
HasRoom (Lock l words) = Unit {0}
HasRoom (Unlock l words) = Unit {0}
HasRoom (Out w) = Unit {0}
HasRoom Done = Unit {0}
HasRoom (Call f crossing) = Unit {0}
HasRoom (Leave crossing) = Unit {0}

-- units that make a program, and the rules of their talk
pub record Family (K : Type 0) : Type 1 where
  -- the edge of a thread of the program, and that of each unit
  pub edge : Edge
  pub edges : ℕ → Edge
  -- the unit of the entry, and what it receives first
  pub opening : Turn K
  -- what the running unit emits may be received so; or the thread ends by it
  pub exchange : Talk K → RunLabel → Turn K → Type 0
  pub ends : Talk K → RunLabel → Type 0
  -- the open functions of the thread, from those of its units
  pub weave : Talk K → (ℕ → List Opened) → List Opened

-- the units' words are the thread's, and what a unit leaves out of its open functions the thread does
pub record IsFamily {K : Type 0} (p : Family K) : Type 0 where
  pub cells : (i : ℕ) → (p.edges i).cells ≡ p.edge.cells
  pub weaves : (h : Talk K) (xs ys : ℕ → List Opened) → ((i : ℕ) → Subsequence (xs i) (ys i)) →
      Subsequence (p.weave h xs) (p.weave h ys)

-- at the start the unit of the entry has received
abbrev pub silent : {K : Type 0} → Family K → Talk K
silent p = record { now = p.opening.to; labels = λ i. []; known = p.opening.known }

-- the units in the midst of a run: their talk, and where each stands
pub record Units (K S : Type 0) : Type 0 where
  pub talk : Talk K
  pub states : ℕ → S

module _ {K S : Type 0} where
  -- where the running unit stands
  abbrev pub state_now : Units K S → S
  state_now h = h.states h.talk.now

  -- it goes on to this state
  abbrev pub goes_on : Units K S → S → Units K S
  goes_on h y = record { talk = h.talk; states = set h.states h.talk.now y }

  -- by this label
  abbrev pub emits : Units K S → RunLabel → S → Units K S
  emits h l y = record { talk = emitted h.talk l; states = set h.states h.talk.now y }

  -- and another unit receives it and goes on to this state
  abbrev pub turns : Units K S → Turn K → S → Units K S
  turns h x z = record { talk = received h.talk x; states = set h.states x.to z }

-- where the units start, but for that of the entry, which receives and goes on to this state
abbrev pub at_first : {K S : Type 0} → Family K → (ℕ → S) → S → Units K S
at_first p starts y = turns (record { talk = silent p; states = starts }) p.opening y

-- a run with these labels ends at this state
pub record Stands {S : Type 0} (edge : Edge) (m : Machine S) (labels : List RunLabel) (x : S) : Type 0 where
  pub blocks : List Block
  pub block : Block
  pub run : Run edge m labels blocks block x

-- the thread has ended here
pub record IsOver {S : Type 0} (m : Machine S) (x : S) : Type 0 where
  pub stops : m.act x ≡ Stops Ended
  pub reads : (m.footprint x).reads ≡ []
  pub writes : (m.footprint x).writes ≡ []
  pub opened : open_functions m x ≡ []

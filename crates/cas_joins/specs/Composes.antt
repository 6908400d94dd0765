-- What the language of a source shows: runs of the units of its program make a run of a thread.
use Rattle.std.specs.Prelude.{◌≡◌, ◌⊎◌, ℕ, ◌≤◌, List, [], Some}
use Rattle.cas_runs.specs.Label.{RunLabel, Lock}
use Rattle.cas_runs.specs.Edge.{AreGuarded}
use Rattle.cas_runs.specs.Outside.{MayBring}
use Rattle.cas_runs.specs.Machine.{Act, Quiet, Emits, Crosses, Locks, Receives, Bad, Stops, Ends, Names, label_of, crossing_by, IsBad, Machine, open_functions}
use Rattle.cas_runs.specs.Refines.{Subsequence}
use Rattle.cas_runs.specs.Rules.{IsReceiving}
use Rattle.cas_runs.specs.Forms.{FootIn}
use Rattle.cas_joins.specs.Units.{Turn, HasRoom, Family, Units, state_now, goes_on, emits, turns, at_first, Stands, IsOver}

-- the units and the thread of a source
pub record Source (K S Y : Type 0) : Type 1 where
  pub units : ℕ → Machine S
  pub thread : Machine Y
  -- the thread stands where its units do
  pub at : Units K S → Y → Type 0

module _ {K S Y : Type 0} (p : Family K) (s : Source K S Y) where
  -- what the running unit does next
  abbrev pub act_now : Units K S → Act S
  act_now h = (s.units h.talk.now).act (state_now h)

  -- the thread ends at this step
  pub record EndsHere (z : Y) : Type 0 where
    pub end : Y
    pub is_last : s.thread.act z ≡ Emits Ends end
    pub is_over : IsOver s.thread end
    pub price : 1 ≤ s.thread.price end

  -- another unit receives the label, by a step of the thread; if there is room for its objects it may
  pub record IsReceived (h : Units K S) (z : Y) (l : RunLabel) (y : S) : Type 0 where
    pub turn : Turn K
    pub exchanged : p.exchange h.talk l turn
    pub may : HasRoom turn.receives → MayBring (p.edges turn.to) ((emits h l y).talk.labels turn.to) turn.receives
    pub receive : RunLabel → S
    pub waits : (s.units turn.to).act ((emits h l y).states turn.to) ≡ Receives receive
    pub to : Y
    pub goes : s.thread.act z ≡ Quiet to
    pub at : s.at (turns (emits h l y) turn (receive turn.receives)) to

  -- the running unit has emitted a Call or a Leave and waits, and the thread ends or another unit receives it
  pub record CrossingComposes (h : Units K S) (z : Y) (l : RunLabel) (y : S) : Type 0 where
    pub waits : IsReceiving ((s.units h.talk.now).act y)
    pub or_ends : (p.ends h.talk l × EndsHere z) ⊎ IsReceived h z l y

  -- a step of the running unit is one of the thread
  abbrev pub StepComposes : Units K S → Y → Act S → Type 0
  StepComposes h z (Quiet y) = (to : Y) × (s.thread.act z ≡ Quiet to) × s.at (goes_on h y) to
  StepComposes h z (Emits e y) = (to : Y) × (s.thread.act z ≡ Emits e to) × s.at (emits h (label_of e) y) to
  StepComposes h z (Locks lock nexts) = (to : List ℕ → Y) × (s.thread.act z ≡ Locks lock to)
      × ((words : List ℕ) → AreGuarded p.edge lock words → s.at (emits h (Lock lock words) (nexts words)) (to words))
  StepComposes h z (Crosses function share nexts) = (n : Names) (y : S) → nexts n ≡ Some y →
      CrossingComposes h z (crossing_by function share n) y
  StepComposes h z (Stops why) = s.thread.act z ≡ Stops why
  StepComposes h z Bad = ⊥
  StepComposes h z (Receives nexts) = ⊥

  -- where the thread starts, the unit of the entry has received what it may
  pub record StartsComposed : Type 0 where
    pub receive : RunLabel → S
    pub waits : (s.units p.opening.to).act (s.units p.opening.to).start ≡ Receives receive
    pub may : MayBring (p.edges p.opening.to) [] p.opening.receives
    pub at : s.at (at_first p (λ i. (s.units i).start) (receive p.opening.receives)) s.thread.start

  -- Where the thread's step is Bad, its unit's may have touched and called more.
  pub record Composes : Type 0 where
    pub starts : StartsComposed
    pub price : (h : Units K S) (y : Y) → s.at h y → (s.units h.talk.now).price (state_now h) ≤ s.thread.price y
    pub touches : (h : Units K S) (y : Y) → s.at h y →
        IsBad (s.thread.act y) ⊎ FootIn ((s.units h.talk.now).footprint (state_now h)) (s.thread.footprint y)
    pub opened : (h : Units K S) (y : Y) → s.at h y → IsBad (s.thread.act y)
        ⊎ Subsequence (p.weave h.talk (λ i. open_functions (s.units i) (h.states i))) (open_functions s.thread y)
    pub waits : (h : Units K S) (y : Y) → s.at h y → (i : ℕ) → (i ≡ h.talk.now → ⊥) →
        IsReceiving ((s.units i).act (h.states i))
    pub steps : (h : Units K S) (y : Y) → s.at h y →
        ((i : ℕ) → Stands (p.edges i) (s.units i) (h.talk.labels i) (h.states i)) →
        IsBad (s.thread.act y) ⊎ StepComposes h y (act_now h)

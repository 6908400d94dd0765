-- A unit, a function or a thread that runs alone against an outside: its steps, its labels and what they cost.
use Rattle.std.specs.Prelude.{◌≡◌, ℕ, ◌+◌, List, [], ◌∷◌, ◌++◌, Option, Some, None}
use Rattle.cas_runs.specs.Label.{NameBytes, Shown, Object, Share, RunLabel, Lock, Unlock, Out, Done}
use Rattle.cas_runs.specs.Label.{crossing_label}
use Rattle.cas_runs.specs.Edge.{Edge, AreGuarded}
use Rattle.cas_runs.specs.Outside.{MayBring}

-- the shared words that a step reads and writes, by number
pub record Footprint : Type 0 where
  pub reads : List ℕ
  pub writes : List ℕ

-- what a unit does that others see, and that doesn't cross
pub data Event : Type 0 where
  Unlocks : (lock : ℕ) (words : List ℕ) → Event
  Prints : (word : ℕ) → Event
  Ends : Event

abbrev pub label_of : Event → RunLabel
label_of (Unlocks lock words) = Unlock lock words
label_of (Prints word) = Out word
label_of Ends = Done

-- why there is no next step: the thread has ended, the lock is in the share already, or the stack is full, which comes
-- in the last language alone
pub data Halt : Type 0 where
  Ended : Halt
  Taken : (lock : ℕ) → Halt
  Full : Halt

-- how what crosses is named: the values, and the objects
pub record Names : Type 0 where
  pub values : List Shown
  pub objects : List Object

-- what is next at a state
pub data Act (S : Type 0) : Type 0 where
  -- a step without a label
  Quiet : (next : S) → Act S
  -- an Unlock, an Out or a Done
  Emits : (event : Event) (next : S) → Act S
  -- a Call of this function or a Leave, with this share, by each way to name what crosses
  Crosses : (function : Option NameBytes) (share : Share) (next : Names → Option S) → Act S
  -- a Lock, whose words come from the outside
  Locks : (lock : ℕ) (next : List ℕ → S) → Act S
  -- an Enter or a Back, which comes from the outside
  Receives : (next : RunLabel → S) → Act S
  -- a step without a meaning
  Bad : Act S
  -- no next step
  Stops : (why : Halt) → Act S

-- among the open functions: one of an activation, or the outside, which called in there
pub data Opened : Type 0 where
  Open : (function : NameBytes) → Opened
  Between : Opened

-- a language at one unit. The price and the footprint at a state are those of the step that is next there
pub record Machine (S : Type 0) : Type 0 where
  pub start : S
  pub act : S → Act S
  pub price : S → ℕ
  pub footprint : S → Footprint
  -- the functions of the activations, and where the outside has called in, the newest first
  pub activations : S → List Opened
  -- the function that is called where a call is next
  pub called : S → Option NameBytes

abbrev pub and_called : Option NameBytes → List Opened → List Opened
and_called None functions = functions
and_called (Some function) functions = Open function ∷ functions

-- the open functions, the newest first: the called one counts as open
abbrev pub open_functions : {S : Type 0} → Machine S → S → List Opened
open_functions m x = and_called (m.called x) (m.activations x)

-- a Call or a Leave by these names
abbrev pub crossing_by : Option NameBytes → Share → Names → RunLabel
crossing_by function share names =
    crossing_label function (record { values = names.values; share = share; objects = names.objects })

-- after these labels, the act steps by this label to this state
abbrev pub StepsTo : {S : Type 0} → Edge → List RunLabel → Act S → RunLabel → S → Type 0
StepsTo edge before (Emits event next) l y = (label_of event ≡ l) × (next ≡ y)
StepsTo edge before (Crosses function share next) l y =
    (names : Names) × (crossing_by function share names ≡ l) × (next names ≡ Some y)
StepsTo edge before (Locks lock next) l y =
    (words : List ℕ) × (l ≡ Lock lock words) × AreGuarded edge lock words × (next words ≡ y)
StepsTo edge before (Receives next) l y = MayBring edge before l × (next l ≡ y)
StepsTo edge before _ l y = ⊥

-- the step has no meaning
abbrev pub IsBad : {S : Type 0} → Act S → Type 0
IsBad Bad = Unit {0}
IsBad _ = ⊥

-- the part of a run between two labels: what its steps, and the step at which it stands, have paid and touched
pub record Block : Type 0 where
  pub price : ℕ
  pub reads : List ℕ
  pub writes : List ℕ

-- a block with one step more
abbrev pub and_step : Block → ℕ → Footprint → Block
and_step b price foot =
    record { price = b.price + price; reads = b.reads ++ foot.reads; writes = b.writes ++ foot.writes }

-- a block that goes on to a state, at whose step the run then stands
abbrev pub onward : {S : Type 0} → Machine S → Block → S → Block
onward m b x = and_step b (m.price x) (m.footprint x)

-- a block without a step
abbrev pub nothing : Block
nothing = record { price = 0; reads = []; writes = [] }

-- a block that begins at a state
abbrev pub begun : {S : Type 0} → Machine S → S → Block
begun m x = onward m nothing x

-- a run from the start: its labels and the blocks that they ended, the newest first, the block in which it is, and
-- where it stands
pub data Run {S : Type 0} (edge : Edge) (m : Machine S) : List RunLabel → List Block → Block → S → Type 0 where
  starts : Run edge m [] [] (begun m m.start) m.start
  quiet : {ls : List RunLabel} {bs : List Block} {b : Block} {x : S} (y : S) → Run edge m ls bs b x →
      m.act x ≡ Quiet y →
      Run edge m ls bs (onward m b y) y
  labelled : {ls : List RunLabel} {bs : List Block} {b : Block} {x : S} (l : RunLabel) (y : S) → Run edge m ls bs b x →
      StepsTo edge ls (m.act x) l y → Run edge m (l ∷ ls) (b ∷ bs) (begun m y) y

module _ {S : Type 0} {edge : Edge} {m : Machine S} where
  -- how many quiet steps a run has
  abbrev pub quiet_steps : {ls : List RunLabel} {bs : List Block} {b : Block} {x : S} → Run edge m ls bs b x → ℕ
  quiet_steps starts = 0
  quiet_steps (quiet y r e) = quiet_steps r + 1
  quiet_steps (labelled l y r e) = quiet_steps r

  -- how many of them come after its last label
  abbrev pub quiet_now : {ls : List RunLabel} {bs : List Block} {b : Block} {x : S} → Run edge m ls bs b x → ℕ
  quiet_now (quiet y r e) = quiet_now r + 1
  quiet_now _ = 0

-- this holds after the labels of each run, at the state where it stands
abbrev pub Always : {S : Type 0} → Edge → Machine S → (List RunLabel → S → Type 0) → Type 0
Always {S = S} edge m P = (ls : List RunLabel) (bs : List Block) (b : Block) (x : S) → Run edge m ls bs b x → P ls x

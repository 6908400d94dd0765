-- The layer of calls: a language gives the steps of one activation, and calls, crossings, locks, shares, memory and
-- prices are told here once.
use Rattle.std.specs.Prelude.{ℕ, zero, suc, ◌+◌, Bool, true, false, List, [], ◌∷◌, Option, Some, None}
use Rattle.cas_runs.specs.Label.{NameBytes, Share, RunLabel, Enter, Back}
use Rattle.cas_runs.specs.Edge.{results_of}
use Rattle.cas_runs.specs.Naming.{Own, Value, Number, Layout, parts_at, Naming, Memory, and_then, all_named_by}
use Rattle.cas_runs.specs.Naming.{can_show_all, objects_of, same_objects, all_taken, with_block, brought}
use Rattle.cas_runs.specs.Machine.{Footprint, Act, Quiet, Emits, Crosses, Locks, Receives, Bad, Stops, Ended, Taken}
use Rattle.cas_runs.specs.Machine.{Unlocks, Prints, Ends, Names, Opened, Open, Between, Machine}
use Rattle.cas_runs.specs.Bounds.{Tariff, step_price, first_price, waiting_price}
use Rattle.cas_runs.specs.Access.{Accesses, Holding, words_in, with_lock, without_lock, Performed, performed}
use Rattle.cas_runs.specs.Unit.{Setting, Language, found, guard_of}

-- what a step of an activation does at last
pub data Last (A : Type 0) : Type 0 where
  Goes : (next : A) → Last A
  Takes : (lock : NameBytes) (next : A) → Last A
  Gives : (lock : NameBytes) (next : A) → Last A
  Puts : (word : ℕ) (next : A) → Last A
  Calls : (function : NameBytes) (arguments : List Value) (next : List Value → Option A) → Last A
  Tails : (function : NameBytes) (arguments : List Value) → Last A
  Returns : (values : List Value) → Last A

-- a language by its activations: how one begins, with its serial number and its arguments, its steps, and what they
-- cost. Where it can't begin or go on so, the step has no meaning
pub record Activations (F A : Type 0) : Type 0 where
  pub name : F → NameBytes
  pub blocks : F → List ℕ
  -- what each word of a block is where the activation begins: 0, or in a language with frames no value
  pub first_word : Value
  pub enter : F → (serial : ℕ) → List Value → Option A
  pub form : A → Accesses (Last A)
  pub tariff : Tariff F A

-- the blocks of a function that has one block of this size: none where it is 0
abbrev pub one_block : ℕ → List ℕ
one_block zero = []
one_block (suc n) = suc n ∷ []

-- which functions run together, which of them a call within finds, and whether the other calls cross
pub record Scene (F : Type 0) : Type 0 where
  pub functions : List F
  pub within : List F
  pub crosses : Bool

-- what waits below the newest activation: an activation for the result of its call, or the outside, and how many
-- values the function that it called returns
pub data Frame (F A : Type 0) : Type 0 where
  Waits : (function : F) (serial : ℕ) (results : Option ℕ) (next : List Value → Option A) → Frame F A
  Outer : (results : Option ℕ) → Frame F A

-- the objects that have crossed, and how many activations have begun
pub record Past : Type 0 where
  pub naming : Naming
  pub begun : ℕ

-- where a thread stands
pub data Thread (F A : Type 0) : Type 0 where
  -- the outside runs
  Away : (stack : List (Frame F A)) (past : Past) (holding : Holding) → Thread F A
  -- an activation runs, with what its first step costs in addition
  Runs : (function : F) (serial : ℕ) (now : A) (extra : ℕ) (stack : List (Frame F A)) (past : Past)
      (holding : Holding) →
      Thread F A
  -- a tail call that crossed has returned, and leaves
  Leaves : (values : List Value) (stack : List (Frame F A)) (past : Past) (holding : Holding) → Thread F A
  Over : Thread F A
  -- the outside brought what has no meaning
  Wrong : Thread F A

-- The memory.

-- so many words, all this one
abbrev pub so_many : Value → ℕ → List Value
so_many word zero = []
so_many word (suc n) = word ∷ so_many word n

-- the memory with other blocks of an activation, from the k-th on
abbrev pub set_blocks : (ℕ → Option (List Value)) → Memory → NameBytes → (serial k : ℕ) → List ℕ → Memory
set_blocks words memory name serial k [] = memory
set_blocks words memory name serial k (size ∷ sizes) =
    set_blocks words (with_block memory (Own name serial k) (words size)) name serial (k + 1) sizes

-- each word of a block is this one where the activation begins
abbrev pub fresh : Value → ℕ → Option (List Value)
fresh word size = Some (so_many word size)

-- and when it has returned it is no more
abbrev pub gone : ℕ → Option (List Value)
gone size = None

-- What crosses.

-- no shared word
abbrev pub nothing_touched : Footprint
nothing_touched = record { reads = []; writes = [] }

abbrev pub if_shown : Bool → Naming → Option Naming
if_shown true ns = Some ns
if_shown false ns = None

-- the naming by which these values and the objects that have crossed by then are named so
abbrev pub named_as : Layout → List Value → Past → Holding → Names → Option Naming
named_as layout values past h names =
    and_then (all_named_by (parts_at layout past.begun) past.naming values names.values)
    (λ ns. if_shown (same_objects (objects_of h.memory ns) names.objects) ns)

-- each of the values can be shown
abbrev pub can_cross : Layout → Past → List Value → Bool
can_cross layout past values = can_show_all (parts_at layout past.begun) past.naming values

-- the past with another naming
abbrev pub with_naming : Past → Naming → Past
with_naming past ns = record past { naming = ns }

-- the first values, if there are so many
abbrev pub first_values : ℕ → List Value → Option (List Value)
first_values zero values = Some []
first_values (suc n) [] = None
first_values (suc n) (v ∷ values) = and_then (first_values n values) (λ firsts. Some (v ∷ firsts))

-- the results that the caller takes: as many as the called function returns by its type. A tail call may return more,
-- as where a function without result ends by calling one that has a result
abbrev pub kept_results : Option ℕ → List Value → Option (List Value)
kept_results None values = None
kept_results (Some n) values = first_values n values

module _ {F A : Type 0} where
  -- the outside runs, with this naming
  abbrev pub to_outside : List (Frame F A) → Past → Holding → Option Naming → Option (Thread F A)
  to_outside stack past h None = None
  to_outside stack past h (Some ns) = Some (Away stack (with_naming past ns) h)

  -- a call of this function or a return to the outside, with these values: a pointer that is no place of an object
  -- can't cross
  abbrev pub crosses_if : Bool → Option NameBytes → Share → (Names → Option (Thread F A)) → Act (Thread F A)
  crosses_if true function share next = Crosses function share next
  crosses_if false function share next = Bad

  abbrev pub crosses_out : Layout → Option NameBytes → List Value → List (Frame F A) → Past → Holding → Act (Thread F A)
  crosses_out layout function values stack past h =
      crosses_if (can_cross layout past values) function h.share
      (λ names. to_outside stack past h (named_as layout values past h names))

  -- the waiting activation goes on with the result
  abbrev pub goes_back : F → (serial : ℕ) → Option A → List (Frame F A) → Past → Holding → Act (Thread F A)
  goes_back f serial None stack past h = Bad
  goes_back f serial (Some a) stack past h = Quiet (Runs f serial a 0 stack past h)

  -- a return to the outside with the results that it takes
  abbrev pub leaves_with : Layout → Option (List Value) → List (Frame F A) → Past → Holding → Act (Thread F A)
  leaves_with layout None stack past h = Bad
  leaves_with layout (Some values) stack past h = crosses_out layout None values stack past h

  -- the newest activation has returned: to one that waits, to the outside, or the thread has ended
  abbrev pub returns : Layout → List Value → List (Frame F A) → Past → Holding → Act (Thread F A)
  returns layout values [] past h = Emits Ends Over
  returns layout values (Outer results ∷ stack) past h = leaves_with layout (kept_results results values) stack past h
  returns layout values (Waits f serial results next ∷ stack) past h =
      goes_back f serial (and_then (kept_results results values) next) stack past h

  -- the same, where the outside brought the result
  abbrev pub resumes : F → (serial : ℕ) → Option A → List (Frame F A) → Past → Holding → Thread F A
  resumes f serial None stack past h = Wrong
  resumes f serial (Some a) stack past h = Runs f serial a 0 stack past h

  abbrev pub leaves_later : Option (List Value) → List (Frame F A) → Past → Holding → Thread F A
  leaves_later None stack past h = Wrong
  leaves_later (Some values) stack past h = Leaves values stack past h

  -- the call that crossed last returns: where it was a tail call, its result leaves
  abbrev pub comes_back : Option (List Value) → List (Frame F A) → Past → Holding → Thread F A
  comes_back None stack past h = Wrong
  comes_back (Some values) [] past h = Wrong
  comes_back (Some values) (Outer results ∷ stack) past h = leaves_later (kept_results results values) stack past h
  comes_back (Some values) (Waits f serial results next ∷ stack) past h =
      resumes f serial (and_then (kept_results results values) next) stack past h

-- Locks.

-- the holding with another share
abbrev pub with_share : Holding → Share → Holding
with_share h share = record h { share = share }

module _ {F A : Type 0} where
  -- a Lock of a lock in the share has no next step
  abbrev pub takes_lock : ℕ → Option (List ℕ) → (List ℕ → Thread F A) → Act (Thread F A)
  takes_lock lock None next = Locks lock next
  takes_lock lock (Some words) next = Stops (Taken lock)

  -- the lock goes by its name; then the thread goes on with what it holds
  abbrev pub takes : Option ℕ → Holding → (Holding → Thread F A) → Act (Thread F A)
  takes None h go = Bad
  takes (Some lock) h go =
      takes_lock lock (words_in h.share lock) (λ words. go (with_share h (with_lock h.share lock words)))

  -- an Unlock of a lock that isn't in the share has no meaning
  abbrev pub gives_lock : ℕ → Option (List ℕ) → Thread F A → Act (Thread F A)
  gives_lock lock None next = Bad
  gives_lock lock (Some words) next = Emits (Unlocks lock words) next

  abbrev pub gives : Option ℕ → Holding → (Holding → Thread F A) → Act (Thread F A)
  gives None h go = Bad
  gives (Some lock) h go =
      gives_lock lock (words_in h.share lock) (go (with_share h (without_lock h.share lock)))

-- Activations.

module _ {F A : Type 0} (l : Activations F A) where
  -- the function of this name
  abbrev pub find : List F → NameBytes → Option F
  find fs name = found l.name fs name

  -- what is held when an activation of the function begins, and when it has returned
  abbrev pub with_own : F → (serial : ℕ) → Holding → Holding
  with_own f serial h =
      record h { memory = set_blocks (fresh l.first_word) h.memory (l.name f) serial 0 (l.blocks f) }

  abbrev pub without_own : F → (serial : ℕ) → Holding → Holding
  without_own f serial h = record h { memory = set_blocks gone h.memory (l.name f) serial 0 (l.blocks f) }

  -- one activation more has begun
  abbrev pub one_begun : Past → Past
  one_begun past = record past { begun = past.begun + 1 }

  -- an activation of the function begins
  abbrev pub begins : F → A → List (Frame F A) → Past → Holding → Thread F A
  begins f a stack past h =
      Runs f past.begun a (first_price l.tariff l.blocks f) stack (one_begun past) (with_own f past.begun h)

  -- a call within
  abbrev pub calls_in : F → Option A → List (Frame F A) → Past → Holding → Act (Thread F A)
  calls_in f None stack past h = Bad
  calls_in f (Some a) stack past h = Quiet (begins f a stack past h)

  -- the outside enters
  abbrev pub enters_at : F → Option A → List (Frame F A) → Past → Holding → Thread F A
  enters_at f None stack past h = Wrong
  enters_at f (Some a) stack past h = begins f a stack past h

  abbrev pub enters : Option F → Option (List Value) → List (Frame F A) → Past → Holding → Thread F A
  enters None values stack past h = Wrong
  enters (Some f) None stack past h = Wrong
  enters (Some f) (Some values) stack past h = enters_at f (l.enter f past.begun values) stack past h

  -- the functions of the waiting activations, and where the outside called in, the newest first
  abbrev pub waiting : List (Frame F A) → List Opened
  waiting [] = []
  waiting (Waits f serial results next ∷ stack) = Open (l.name f) ∷ waiting stack
  waiting (Outer results ∷ stack) = Between ∷ waiting stack

-- the called function, where the step is a call
abbrev pub called_by : {A : Type 0} → Option (Last A) → Option NameBytes
called_by (Some (Calls function values next)) = Some function
called_by (Some (Tails function values)) = Some function
called_by _ = None

-- the step of an activation, with its accesses made
abbrev pub step_at : {F A : Type 0} → Activations F A → Setting → A → Holding → Performed (Last A)
step_at l setting now h =
    performed setting.edge (l.form now) (record { holding = h; footprint = nothing_touched })

module _ {F A : Type 0} (l : Activations F A) (setting : Setting) (scene : Scene F) where
  -- a call that crosses, where calls cross
  abbrev pub calls_out : Bool → NameBytes → List Value → List (Frame F A) → Past → Holding → Act (Thread F A)
  calls_out true function values stack past h = crosses_out setting.layout (Some function) values stack past h
  calls_out false function values stack past h = Bad

  -- a call within, or one that crosses
  abbrev pub calls : Option F → NameBytes → List Value → List (Frame F A) → Past → Holding → Act (Thread F A)
  calls (Some f) function values stack past h = calls_in l f (l.enter f past.begun values) stack past h
  calls None function values stack past h = calls_out scene.crosses function values stack past h

  -- what a step does at last. A tail call leaves nothing to do but to return its result
  abbrev pub acts : Option (Last A) → F → (serial : ℕ) → List (Frame F A) → Past → Holding → Act (Thread F A)
  acts None f serial stack past h = Bad
  acts (Some (Goes next)) f serial stack past h = Quiet (Runs f serial next 0 stack past h)
  acts (Some (Takes lock next)) f serial stack past h =
      takes (guard_of setting.edge lock) h (Runs f serial next 0 stack past)
  acts (Some (Gives lock next)) f serial stack past h =
      gives (guard_of setting.edge lock) h (Runs f serial next 0 stack past)
  acts (Some (Puts word next)) f serial stack past h = Emits (Prints word) (Runs f serial next 0 stack past h)
  acts (Some (Calls function values next)) f serial stack past h =
      calls (find l scene.within function) function values
      (Waits f serial (results_of setting.edge function) next ∷ stack) past h
  acts (Some (Tails function values)) f serial stack past h =
      calls (find l scene.within function) function values stack past (without_own l f serial h)
  acts (Some (Returns values)) f serial stack past h =
      returns setting.layout values stack past (without_own l f serial h)

  -- what the outside brings: the share, and what it left of the objects that have crossed
  abbrev pub receives : List (Frame F A) → Past → Holding → RunLabel → Thread F A
  receives stack past h (Enter f crossing) =
      let c = brought h.memory past.naming 0 crossing.objects in
      enters l (find l scene.functions f) (all_taken c.naming crossing.values)
      (Outer (results_of setting.edge f) ∷ stack) (with_naming past c.naming)
      (record { share = crossing.share; memory = c.memory })
  receives stack past h (Back crossing) =
      let c = brought h.memory past.naming 0 crossing.objects in
      comes_back (all_taken c.naming crossing.values) stack (with_naming past c.naming)
      (record { share = crossing.share; memory = c.memory })
  receives stack past h _ = Wrong

  -- the act, the price and the footprint at a state
  abbrev pub act_at : Thread F A → Act (Thread F A)
  act_at (Away stack past h) = Receives (receives stack past h)
  act_at (Runs f serial now extra stack past h) =
      acts (step_at l setting now h).last f serial stack past (step_at l setting now h).holding
  act_at (Leaves values stack past h) = crosses_out setting.layout None values stack past h
  act_at Over = Stops Ended
  act_at Wrong = Bad

  abbrev pub price_at : Thread F A → ℕ
  price_at (Runs f serial now extra stack past h) = step_price l.tariff scene.functions now + extra
  price_at _ = waiting_price l.tariff scene.functions

  abbrev pub footprint_at : Thread F A → Footprint
  footprint_at (Runs f serial now extra stack past h) = (step_at l setting now h).footprint
  footprint_at _ = nothing_touched

  -- the functions of the activations, and the called one
  abbrev pub activations_at : Thread F A → List Opened
  activations_at (Away stack past h) = waiting l stack
  activations_at (Runs f serial now extra stack past h) = Open (l.name f) ∷ waiting l stack
  activations_at (Leaves values stack past h) = Between ∷ waiting l stack
  activations_at _ = []

  abbrev pub called_at : Thread F A → Option NameBytes
  called_at (Runs f serial now extra stack past h) = called_by (step_at l setting now h).last
  called_at _ = None

  -- from this state on
  abbrev pub machine : Thread F A → Machine (Thread F A)
  machine from = record {
    start = from;
    act = act_at;
    price = price_at;
    footprint = footprint_at;
    activations = activations_at;
    called = called_at;
  }

-- nothing has crossed, and no activation has begun
abbrev pub no_past : Past
no_past = record { naming = []; begun = 0 }

-- nothing is held
abbrev pub no_holding : Holding
no_holding = record { share = []; memory = λ home. None }

-- the outside runs first
abbrev pub outside_first : {F A : Type 0} → Thread F A
outside_first = Away [] no_past no_holding

-- a thread begins with the function, on its number
abbrev pub starts : {F A : Type 0} → Activations F A → Option F → ℕ → Thread F A
starts l f thread = enters l f (Some (Number thread ∷ [])) [] no_past no_holding

-- a unit of these functions
abbrev pub of_unit : {F : Type 0} → List F → Scene F
of_unit fs = record { functions = fs; within = fs; crosses = true }

-- a function alone
abbrev pub of_function : {F : Type 0} → F → Scene F
of_function f = record { functions = f ∷ []; within = []; crosses = true }

-- a whole program of these functions
abbrev pub of_program : {F : Type 0} → List F → Scene F
of_program fs = record { functions = fs; within = fs; crosses = false }

-- the language that these activations make
abbrev pub language : {F A : Type 0} → Activations F A → Language F (Thread F A)
language l = record {
  name = l.name;
  blocks = l.blocks;
  unit = λ setting fs. machine l setting (of_unit fs) outside_first;
  alone = λ setting f. machine l setting (of_function f) outside_first;
  thread = λ setting fs entry thread. machine l setting (of_program fs) (starts l (find l fs entry) thread);
}

-- A thread of a whole program, and the same thread over label runs: its activations are those of the other, and what
-- waits is computed from them.
--
--     the thread     activations  a ∷ older      memory                        all words
--                        │          │              │                             │
--     label runs     now         frames_of       blocks, with what was passed   its share
use Rattle.std.specs.Prelude.{◌≡◌, ◌⊎◌, ℕ, ◌≤◌, List, [], ◌∷◌, length, Option, Some, None, slice_get}
use Rattle.cas_base.specs.declared.act.Act.TheVariants as act
use Rattle.cas_base.specs.declared.act.Why.{Why}
use Rattle.cas_base.specs.declared.decl.Decl.{Decl}
use Rattle.cas_base.specs.declared.decl.Form.TheVariants.{Function as AFunction}
use Rattle.cas_base.specs.declared.kind.Kind.{Kind}
use Rattle.cas_base.specs.declared.kind.Ty.{Ty}
use Rattle.cas_typed.specs.declared.tree.Destination.{Destination}
use Rattle.cas_typed.specs.Modules.{decls_of}
use Rattle.cas_typed.specs.Resolved.{TypedModuleTree}
use Rattle.cas_step.specs.Env as env
use Rattle.cas_step.specs.Env.{FunctionAt, Env, length_of}
use Rattle.cas_step.specs.Sound.{IsSound}
use Rattle.cas_step.specs.Step as step
use Rattle.cas_step.specs.Step.{Activation, Block, Config, StepContext, Step, cells_at}
use Rattle.cas_step.specs.Asks.{word}
use Rattle.cas_step.specs.Well_formed.{IsWellFormed, AreEntries, IsWellTypedStore}
use Rattle.cas_runs.specs.Label.{NameBytes, Each, Share}
use Rattle.cas_runs.specs.Edge.{Cell, SharedWord, TableWord, AreUnder, IsOrdered, results_of}
use Rattle.cas_runs.specs.Edge as edge
use Rattle.cas_runs.specs.Naming.{Own}
use Rattle.cas_runs.specs.Machine as machine
use Rattle.cas_runs.specs.Machine.{Footprint, Quiet, Emits, Locks, Stops, Unlocks, Prints, Ends, Ended, Taken}
use Rattle.cas_runs.specs.Access.{Holding, words_in, place_among}
use Rattle.cas_runs.specs.Unit.{Setting}
use Rattle.cas_runs.specs.Calls.{Thread, Runs, Over, Frame, Waits, Past, find, of_program, act_at, footprint_at, starts}
use Rattle.cas_clight.specs.Clight as clight
use Rattle.cas_clight.specs.Clight.{ClightFun, ClightState, Passed, at, resumed, result_of, parameters_of}
use Rattle.cas_bridge.specs.Matching.{MemoryMatches, WordsMatch, ItemMatches, IsUnheldWord}
use Rattle.cas_bridge.specs.Matching.{IsGuardMissing, DifferUnder}
use Rattle.cas_bridge.specs.Steps.{with_passed, HaveRoomFor, footprint_of, Touched}

-- a program as both have it: its modules with their environment; and its functions of Clight, with the setting in which
-- its threads run
pub record Program : Type 0 where
  pub modules : List TypedModuleTree
  pub env : Env
  pub setting : Setting
  pub functions : List ClightFun

-- the function at this place is this one of Clight
pub record IsFunction (p : Program) (f : FunctionAt) (g : ClightFun) : Type 0 where
  pub unit : TypedModuleTree
  pub unit_is : slice_get p.modules f.unit ≡ Some unit
  pub decls : g.decls ≡ decls_of unit
  pub locals : g.locals ≡ (p.env.function f).locals
  pub result : result_of g ≡ (p.env.function f).ret
  pub body : g.body ≡ (p.env.function f).body

-- how many values a function of Clight returns
abbrev pub results_count : ClightFun → ℕ
results_count f = length (edge.returned (result_of f))

-- a call of what is declared so comes to the same function in both
pub record IsCalledAs (p : Program) (d : Decl) (f : FunctionAt) : Type 0 where
  pub it : ClightFun
  pub found : find clight.clight p.functions d.name ≡ Some it
  pub is : IsFunction p f it
  pub parameters : (ret : Ty) (params : List Ty) (holds : List NameBytes) → d.form ≡ AFunction ret params holds →
      parameters_of it ≡ length params
  pub results : results_of p.setting.edge d.name ≡ Some (results_count it)

-- the items of each module are the same in both
pub record IsPresented (p : Program) : Type 0 where
  pub well_formed : IsWellFormed p.modules p.env
  pub items : (n g : ℕ) (unit : TypedModuleTree) → slice_get p.modules n ≡ Some unit →
      ItemMatches p.setting.edge (p.env.entity n g) (slice_get (decls_of unit) g)
  pub lengths : (n g : ℕ) (unit : TypedModuleTree) → slice_get p.modules n ≡ Some unit →
      length_of (p.env.entity n g) ≡ length_of (clight.entity_of (slice_get (decls_of unit) g))
  pub called : (n g : ℕ) (unit : TypedModuleTree) (d : Decl) (f : FunctionAt) → slice_get p.modules n ≡ Some unit →
      slice_get (decls_of unit) g ≡ Some d → p.env.entity n g ≡ Some (env.function f) → IsCalledAs p d f

-- a thread that hasn't ended, over these words
pub record Standing : Type 0 where
  pub newest : Activation
  pub older : List Activation
  pub memory : List Block
  pub fresh : ℕ
  pub words : List ℕ

abbrev pub config_of : Standing → Config
config_of r = record { activations = r.newest ∷ r.older; memory = r.memory; fresh = r.fresh }

abbrev pub context_at : Standing → StepContext
context_at r = record { config = config_of r; newest = r.newest; older = r.older; words = r.words }

-- what waits below an activation of the called function, whose result goes to this local
abbrev pub frames_of : (owner : (serial : ℕ) → ClightFun) → (called : ClightFun) → Option Destination →
    List Activation → List (Frame ClightFun ClightState)
frames_of owner called target [] = []
frames_of owner called target (a ∷ older) =
    Waits (owner a.serial) a.serial (Some (results_count called)) (resumed (owner a.serial) a.serial a.cont target)
    ∷ frames_of owner (owner a.serial) a.target older

-- each activation is one of its function
abbrev pub AreOwners : Program → (owner : (serial : ℕ) → ClightFun) → List Activation → Type 0
AreOwners p owner = Each (λ (a : Activation). IsFunction p a.function (owner a.serial))

-- the running thread of label runs: what was passed to its activation and isn't stored yet, what has happened, and
-- what it holds
pub record Ran : Type 0 where
  pub passed : List Passed
  pub past : Past
  pub holding : Holding

-- the memories match, with room for what was passed, and there are no blocks of activations to come
pub record BlocksAgree (owner : (serial : ℕ) → ClightFun) (r : Standing) (y : Ran) : Type 0 where
  pub memory : MemoryMatches owner (cells_at r.memory)
      (with_passed (owner r.newest.serial) r.newest.serial y.holding.memory y.passed)
  pub room : HaveRoomFor (owner r.newest.serial) r.newest.serial y.holding.memory y.passed
  pub none_later : (function : NameBytes) (serial block : ℕ) → r.fresh ≤ serial →
      y.holding.memory (Own function serial block) ≡ None

-- both run the same
pub record MatchRunning (p : Program) (owner : (serial : ℕ) → ClightFun) (r : Standing) (y : Ran) : Type 0 where
  pub sound : IsSound p.modules p.env (config_of r)
  pub store : IsWellTypedStore p.env r.words
  pub owners : AreOwners p owner (r.newest ∷ r.older)
  pub begun : y.past.begun ≡ r.fresh
  pub blocks : BlocksAgree owner r y
  pub words : WordsMatch p.setting.edge.cells y.holding.share r.words
  pub ordered : IsOrdered p.setting.edge y.holding.share

-- where the newest activation is
abbrev pub state_of : (owner : (serial : ℕ) → ClightFun) → Standing → Ran → ClightState
state_of owner r y = at (owner r.newest.serial) r.newest.serial y.passed r.newest.cont

-- the thread of label runs that runs there
abbrev pub thread_of : (owner : (serial : ℕ) → ClightFun) → Standing → Ran → (extra : ℕ) →
    Thread ClightFun ClightState
thread_of owner r y extra =
    Runs (owner r.newest.serial) r.newest.serial (state_of owner r y) extra
    (frames_of owner (owner r.newest.serial) r.newest.target r.older) y.past y.holding

-- both threads are at the same, over these words: both run, or both have ended
pub data MatchThreads (p : Program) : Config → (words : List ℕ) → Thread ClightFun ClightState → Type 0 where
  running : (owner : (serial : ℕ) → ClightFun) (r : Standing) (y : Ran) (extra : ℕ) → MatchRunning p owner r y →
      MatchThreads p (config_of r) r.words (thread_of owner r y extra)
  over : (c : Config) (words : List ℕ) → c.activations ≡ [] → MatchThreads p c words Over

-- the words of the lock are these, of all words
abbrev pub AreWordsOf : List Cell → (lock : ℕ) → (ws words : List ℕ) → Type 0
AreWordsOf cells lock ws words = (n initial : ℕ) (kind : Kind) →
    slice_get cells n ≡ Some (SharedWord kind (Some lock) initial) →
    slice_get ws (place_among cells lock n) ≡ slice_get words n

-- only shared words differ, and none under a lock of the share
abbrev pub DifferElsewhere : List Cell → Share → (words after : List ℕ) → Type 0
DifferElsewhere cells share words after = (w : ℕ) → (slice_get after w ≡ slice_get words w) ⊎
    ((guard : Option ℕ) × (initial : ℕ) × (kind : Kind) ×
    (slice_get cells w ≡ Some (SharedWord kind guard initial)) × IsGuardMissing share guard)

-- the share of a thread
abbrev pub share_of : Thread ClightFun ClightState → Share
share_of (Runs f serial now extra stack past k) = k.share
share_of _ = []

-- where the thread of label runs goes wrong, so does the other; unless it touches a word that it doesn't hold, or
-- unlocks a lock that it doesn't hold, as no thread of a checked program does
pub data GoesWrongToo (cells : List Cell) (share : Share) (s : Step) : Type 0 where
  is_bad : (why : Why) → s.act ≡ act.Bad why → GoesWrongToo cells share s
  touches : (n : ℕ) → IsUnheldWord cells share n → Touched (Some s) n → GoesWrongToo cells share s
  unlocks : (n : ℕ) → s.act ≡ act.Unlock n → words_in share n ≡ None → GoesWrongToo cells share s

-- the step reads and writes these words
abbrev pub HasFootprint : Step → Footprint → Type 0
HasFootprint s foot = foot ≡ footprint_of s.reads s.writes

module _ (p : Program) (words : List ℕ) (share : Share) (foot : Footprint) where
  abbrev C : List Cell
  C = p.setting.edge.cells

  -- the step leaves the words, and both threads are at the same after it
  pub record Leaves (s : Step) (next : Thread ClightFun ClightState) : Type 0 where
    pub same : s.words ≡ words
    pub footprint : HasFootprint s foot
    pub threads : MatchThreads p s.next words next

  -- the next step of a thread over these words, and the act of the other, with its share and its footprint: they are
  -- the same, and both are at the same after it. An Unlock has the words that all words have; after a Lock with those
  -- words both are at the same
  pub data ActsAgree : Option Step → machine.Act (Thread ClightFun ClightState) → Type 0 where
    quiet : (s : Step) (next : Thread ClightFun ClightState) → s.act ≡ act.Quiet → HasFootprint s foot →
        DifferUnder C share words s.words → MatchThreads p s.next s.words next → ActsAgree (Some s) (Quiet next)
    prints : (n : ℕ) (s : Step) (next : Thread ClightFun ClightState) → s.act ≡ act.Out n → Leaves s next →
        ActsAgree (Some s) (Emits (Prints n) next)
    ends : (s : Step) → s.act ≡ act.Done → Leaves s Over → ActsAgree (Some s) (Emits Ends Over)
    gives : (n : ℕ) (held : List ℕ) (s : Step) (next : Thread ClightFun ClightState) → s.act ≡ act.Unlock n →
        AreWordsOf C n held words → Leaves s next → ActsAgree (Some s) (Emits (Unlocks n held) next)
    takes : (n : ℕ) (s : Step) (next : List ℕ → Thread ClightFun ClightState) → s.act ≡ act.Lock n →
        ((held : List ℕ) → AreUnder p.setting.edge n held → AreWordsOf C n held words → Leaves s (next held)) →
        ActsAgree (Some s) (Locks n next)
    taken : (n : ℕ) (held : List ℕ) (s : Step) → s.act ≡ act.Lock n → words_in share n ≡ Some held →
        ActsAgree (Some s) (Stops (Taken n))
    fails : (s : Step) → GoesWrongToo C share s → ActsAgree (Some s) machine.Bad
    ended : ActsAgree None (Stops Ended)

-- The step of a thread of a program is that of the same thread over label runs, and back, through calls and returns.
abbrev pub ThreadsAgree : Type 0
ThreadsAgree = (p : Program) → IsPresented p → (c : Config) (words : List ℕ) (y : Thread ClightFun ClightState) →
    MatchThreads p c words y →
    ActsAgree p words (share_of y) (footprint_at clight.clight p.setting (of_program p.functions) y)
    (step.step p.env words c) (act_at clight.clight p.setting (of_program p.functions) y)

-- Both stay at the same when only words under locks of other threads change.
abbrev pub ThreadsAreFramed : Type 0
ThreadsAreFramed = (p : Program) (c : Config) (words after : List ℕ) (y : Thread ClightFun ClightState) →
    MatchThreads p c words y → IsWellTypedStore p.env after →
    DifferElsewhere p.setting.edge.cells (share_of y) words after → MatchThreads p c after y

-- a thread may begin with the function of this name, which is the one at this place
pub record IsEntryAt (p : Program) (f : FunctionAt) (name : NameBytes) : Type 0 where
  pub it : ClightFun
  pub found : find clight.clight p.functions name ≡ Some it
  pub is : IsFunction p f it
  pub parameters : parameters_of it ≡ 1

-- Where a thread begins over words whose tables are as at the edge, both are at the same.
abbrev pub ThreadsStart : Type 0
ThreadsStart = (p : Program) → IsPresented p → (entries : List FunctionAt) → AreEntries p.modules p.env entries →
    (thread : ℕ) (f : FunctionAt) (name : NameBytes) → slice_get entries thread ≡ Some f → IsEntryAt p f name →
    (words : List ℕ) → IsWellTypedStore p.env words →
    ((n value : ℕ) → slice_get p.setting.edge.cells n ≡ Some (TableWord value) → slice_get words n ≡ Some value) →
    MatchThreads p (step.start p.env f (word thread ∷ [])) words
    (starts clight.clight (find clight.clight p.functions name) thread)

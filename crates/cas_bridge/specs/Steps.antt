-- The step of a thread of a whole program, and that of the same activation in the layer of calls.
use Rattle.std.specs.Prelude.{◌≡◌, ⊤, ℕ, Bool, true, false, List, [], ◌∷◌, ◌++◌, map, Option, Some, None}
use Rattle.std.specs.Prelude.{slice_get, Contains}
use Rattle.cas_base.specs.declared.act.Act.TheVariants as act
use Rattle.cas_base.specs.declared.act.Why.{Why}
use Rattle.cas_base.specs.declared.decl.Decl.{Decl}
use Rattle.cas_typed.specs.declared.tree.Destination.{Destination}
use Rattle.cas_step.specs.Asks as asks
use Rattle.cas_step.specs.Answered.{Got, got, answered}
use Rattle.cas_step.specs.Env.{Env, length_of}
use Rattle.cas_step.specs.Continuation as items
use Rattle.cas_step.specs.Continuation.{ContItem, Effect, effect_of}
use Rattle.cas_step.specs.Step as step
use Rattle.cas_step.specs.Step.{StepContext, Step, eval_context_of, cells_at, entity_in, thread_with, newest_step}
use Rattle.cas_runs.specs.Label.{NameBytes}
use Rattle.cas_runs.specs.Naming.{Memory}
use Rattle.cas_runs.specs.Machine.{Footprint}
use Rattle.cas_runs.specs.Access.{Performed, Holding}
use Rattle.cas_runs.specs.Unit.{Setting, guard_of}
use Rattle.cas_runs.specs.Calls.{Last, Goes, Takes, Gives, Puts, Calls, Returns, step_at}
use Rattle.cas_runs.specs.Held.{HasRoom, stored_at}
use Rattle.cas_clight.specs.Clight as clight
use Rattle.cas_clight.specs.Clight.{ClightFun, ClightState, Passed, at, encoded, returned, own_home, resumed, result_of}
use Rattle.cas_bridge.specs.Matching.{points, AllValuesMatch, ResultsMatch, MemoryMatches, WordsMatch}
use Rattle.cas_bridge.specs.Matching.{ItemMatches, IsAddressableNext, IsUnheldWord, DifferUnder}

-- both threads: the environment of the one, the setting of the other, and the function of the activation with each
-- serial number
pub record Bridge : Type 0 where
  pub env : Env
  pub setting : Setting
  pub owner : (serial : ℕ) → ClightFun

-- the memory with what was passed to an activation
abbrev pub with_passed : ClightFun → (serial : ℕ) → Memory → List Passed → Memory
with_passed f serial m [] = m
with_passed f serial m (h ∷ hs) = with_passed f serial (stored_at m (own_home f serial h.local) 0 h.value) hs

-- there is room for it
abbrev pub HaveRoomFor : ClightFun → (serial : ℕ) → Memory → List Passed → Type 0
HaveRoomFor f serial m [] = ⊤
HaveRoomFor f serial m (h ∷ hs) =
    HasRoom m (own_home f serial h.local) 0 × HaveRoomFor f serial (stored_at m (own_home f serial h.local) 0 h.value)
    hs

-- the value may be in a cell that has a pointer or not
abbrev pub FitsCell : (has_pointer : Bool) → asks.Value step.Object → Type 0
FitsCell false (asks.word n) = ⊤
FitsCell true asks.null = ⊤
FitsCell true (asks.pointer o p) = ⊤
FitsCell _ _ = ⊥

-- where a step stores a value it has the type of its cell
abbrev pub StoreFits : (owner : (serial : ℕ) → ClightFun) → Got (Effect step.Object) → Type 0
StoreFits owner (got rs (items.stores o p v cont)) = FitsCell (points owner o) v
StoreFits owner _ = ⊤

-- the effect of the next step of the thread
abbrev pub next_effect : Env → StepContext → Got (Effect step.Object)
next_effect e h = answered (entity_in e h) (slice_get h.words) (cells_at h.config.memory)
    (effect_of (eval_context_of e h) (e.function h.newest.function).ret h.newest.cont)

module _ (b : Bridge) (h : StepContext) (y : ClightState) (k : Holding) where
  -- both are at the same: the same function, with the same continuation, the same in memory, and in the share the
  -- program's words. And what a sound thread has of its types
  pub record MatchStates : Type 0 where
    pub function : b.owner h.newest.serial ≡ y.function
    pub serial : y.serial ≡ h.newest.serial
    pub continuation : y.continuation ≡ h.newest.cont
    pub result : result_of y.function ≡ (b.env.function h.newest.function).ret
    pub items : (g : ℕ) → ItemMatches b.setting.edge (entity_in b.env h g) (slice_get y.function.decls g)
    pub lengths : (g : ℕ) →
        length_of (entity_in b.env h g) ≡ length_of (clight.entity_of (slice_get y.function.decls g))
    pub memory : MemoryMatches b.owner (cells_at h.config.memory)
        (with_passed y.function y.serial k.memory y.passed)
    pub words : WordsMatch b.setting.edge.cells k.share h.words
    pub addressable : IsAddressableNext y.function.locals h.newest.cont
    pub room : HaveRoomFor y.function y.serial k.memory y.passed
    pub fits : StoreFits b.owner (next_effect b.env h)

  -- after the step the memories match, and the words
  pub record Holds (blocks : List step.Block) (these : List ℕ) (p : Performed (Last ClightState)) : Type 0 where
    pub memory : MemoryMatches b.owner (cells_at blocks) p.holding.memory
    pub words : WordsMatch b.setting.edge.cells p.holding.share these

-- these words before the others, turned round
abbrev pub onto : List ℕ → List ℕ → List ℕ
onto [] before = before
onto (r ∷ rs) before = onto rs (r ∷ before)

-- a footprint that has the words read, the last one first
abbrev pub footprint_of : (reads writes : List ℕ) → Footprint
footprint_of reads writes = record { reads = onto reads []; writes = writes }

-- the step touches the word, if there is a step
abbrev pub Touched : Option Step → ℕ → Type 0
Touched None n = ⊤
Touched (Some s) n = Contains (s.reads ++ s.writes) n

-- a call as both have it: the words read before it, the item that is called and its declaration, the arguments on both
-- sides, the local that keeps the result, and the continuation
pub record Call : Type 0 where
  pub reads : List ℕ
  pub item : ℕ
  pub decl : Decl
  pub arguments : List (asks.Value step.Object)
  pub passed : List (asks.Value clight.Object)
  pub target : Option Destination
  pub cont : List ContItem

module _ (b : Bridge) (h : StepContext) (y : ClightState) (k : Holding) where
  -- the thread goes on, and both hold the same after the step
  pub record Going (s : Step) (p : Performed (Last ClightState)) : Type 0 where
    pub cont : List ContItem
    pub memory : List step.Block
    pub next : s.next ≡ thread_with h (step.doing h cont) memory
    pub holds : Holds b h y k memory s.words p
    pub footprint : p.footprint ≡ footprint_of s.reads s.writes
    pub under : DifferUnder b.setting.edge.cells k.share h.words s.words

  -- where the activation of the layer goes on
  abbrev pub state_of : List ContItem → ClightState
  state_of cont = at y.function y.serial [] cont

  -- nothing has changed, and these words were read
  abbrev pub HoldsSame : List ℕ → Performed (Last ClightState) → Type 0
  HoldsSame reads p = Holds b h y k h.config.memory h.words p × (p.footprint ≡ footprint_of reads [])

  -- only the continuation has changed
  abbrev pub IsUnchanged : (s : Step) (p : Performed (Last ClightState)) → Going s p → Type 0
  IsUnchanged s p g = (s.words ≡ h.words) × (g.memory ≡ h.config.memory) × (p.holding.share ≡ k.share)

  -- both call
  pub record BothCall (p : Performed (Last ClightState)) : Type 0 where
    pub call : Call
    pub effect : next_effect b.env h ≡ got call.reads (items.calls call.item call.arguments call.target call.cont)
    pub declared : slice_get y.function.decls call.item ≡ Some call.decl
    pub arguments : AllValuesMatch b.owner call.arguments call.passed
    pub last : p.last ≡ Some
        (Calls call.decl.name (map encoded call.passed) (resumed y.function y.serial call.cont call.target))
    pub holds : HoldsSame call.reads p

  -- both return
  pub record BothReturn (p : Performed (Last ClightState)) : Type 0 where
    pub reads : List ℕ
    pub value : Option (asks.Value step.Object)
    pub passed : Option (asks.Value clight.Object)
    pub effect : next_effect b.env h ≡ got reads (items.returns value)
    pub values : ResultsMatch b.owner value passed
    pub last : p.last ≡ Some (Returns (returned passed))
    pub holds : HoldsSame reads p

  -- the same step: both go on; both print, take or give a lock, call or return; or both are Bad, or stuck. Or the one
  -- touches a word that the thread doesn't hold, as no thread of a checked program does
  pub data StepsMatch : Option Step → Performed (Last ClightState) → Type 0 where
    goes : (s : Step) (p : Performed (Last ClightState)) (g : Going s p) → s.act ≡ act.Quiet →
        p.last ≡ Some (Goes (state_of g.cont)) → StepsMatch (Some s) p
    puts : (n : ℕ) (s : Step) (p : Performed (Last ClightState)) (g : Going s p) → s.act ≡ act.Out n →
        IsUnchanged s p g → p.last ≡ Some (Puts n (state_of g.cont)) → StepsMatch (Some s) p
    takes : (n : ℕ) (name : NameBytes) (s : Step) (p : Performed (Last ClightState)) (g : Going s p) →
        s.act ≡ act.Lock n → IsUnchanged s p g → guard_of b.setting.edge name ≡ Some n →
        p.last ≡ Some (Takes name (state_of g.cont)) → StepsMatch (Some s) p
    gives : (n : ℕ) (name : NameBytes) (s : Step) (p : Performed (Last ClightState)) (g : Going s p) →
        s.act ≡ act.Unlock n → IsUnchanged s p g → guard_of b.setting.edge name ≡ Some n →
        p.last ≡ Some (Gives name (state_of g.cont)) → StepsMatch (Some s) p
    calls : (o : Option Step) (p : Performed (Last ClightState)) → BothCall p → StepsMatch o p
    returns : (o : Option Step) (p : Performed (Last ClightState)) → BothReturn p → StepsMatch o p
    is_bad : (why : Why) (s : Step) (p : Performed (Last ClightState)) → s.act ≡ act.Bad why → p.last ≡ None →
        p.footprint ≡ footprint_of s.reads [] → StepsMatch (Some s) p
    is_stuck : (p : Performed (Last ClightState)) → p.last ≡ None → StepsMatch None p
    touches : (n : ℕ) (o : Option Step) (p : Performed (Last ClightState)) →
        IsUnheldWord b.setting.edge.cells k.share n → Touched o n →
        p.last ≡ None → StepsMatch o p
    -- an act on what is no lock
    no_lock : (p : Performed (Last ClightState)) → StepsMatch None p

-- Each step of a thread of a whole program is that of its activation in the layer of calls, and back: they read and
-- write the same words, and memories and words are the same after it.
abbrev pub StepsAgree : Type 0
StepsAgree = (b : Bridge) (h : StepContext) (y : ClightState) (k : Holding) → MatchStates b h y k →
    StepsMatch b h y k (newest_step b.env h) (step_at clight.clight b.setting y k)

-- The small step of a thread of a whole program over shared words, as in Clight. A module alone takes no such steps:
-- its run carries out the same effects with its share, its own objects and those of the outside.
use Rattle.std.specs.Prelude.{ℕ, ◌+◌, nat_eq, ◌&&◌, Bool, if◌then◌else◌, List, [], ◌∷◌, replicate, Option, Some, None, slice_get, slice_index_or, slice_set}
use Rattle.cas_base.specs.Ty.{words_of_ty}
use Rattle.cas_base.specs.Word.{narrowed}
use Rattle.cas_base.specs.declared.act.Act.{Act}
use Rattle.cas_base.specs.declared.act.Act.TheVariants as act
use Rattle.cas_base.specs.declared.act.Why.{Why}
use Rattle.cas_base.specs.declared.kind.Ty.{Ty}
use Rattle.cas_base.specs.declared.kind.Ty.TheVariants.{Int, Ptr}
use Rattle.cas_base.specs.declared.place.Place.{Place}
use Rattle.cas_typed.specs.declared.tree.Destination.{Destination}
use Rattle.cas_step.specs.Answered.{Got, got, bad, got_stuck, value_at, answered}
use Rattle.cas_step.specs.Asks.{Value, word, null, pointer}
use Rattle.cas_step.specs.Env.{FunctionAt, Entity, function, shared, lock, Env}
use Rattle.cas_step.specs.Evaluate.{EvalContext}
use Rattle.cas_step.specs.Continuation.{ContItem, begin_all, Effect, continues, stores, writes, calls, returns, locks, unlocks, prints, effect_of, place_of}

-- an object: a local of the activation with this serial number
pub record Object : Type 0 where
  pub serial : ℕ
  pub local : ℕ

abbrev pub same_object : Object → Object → Bool
same_object a b = nat_eq a.serial b.serial && nat_eq a.local b.local

-- an activation, a call that hasn't returned: its serial number, which no other call of the thread has, its
-- function, the caller's local that keeps its result, and its continuation
pub record Activation : Type 0 where
  pub serial : ℕ
  pub function : FunctionAt
  pub target : Option Destination
  pub cont : List ContItem

-- the locals of the activation with this serial number, each with its cells
pub record Block : Type 0 where
  pub serial : ℕ
  pub locals : List (List (Value Object))

-- a thread: its activations, the newest first, their locals, and the next serial number. A thread without
-- activations has ended
pub record Config : Type 0 where
  pub activations : List Activation
  pub memory : List Block
  pub fresh : ℕ

-- the memory

-- the locals of the activation with this serial number; none if it has returned
abbrev pub locals_at : List Block → (serial : ℕ) → Option (List (List (Value Object)))
locals_at [] serial = None
locals_at (b ∷ bs) serial = if nat_eq b.serial serial then Some b.locals else locals_at bs serial

abbrev pub local_at : Option (List (List (Value Object))) → (local : ℕ) → Option (List (Value Object))
local_at None n = None
local_at (Some locals) n = slice_get locals n

-- the cells of an object; none if it is dead
abbrev pub cells_at : List Block → Object → Option (List (Value Object))
cells_at memory o = local_at (locals_at memory o.serial) o.local

-- locals with a value at a place of one of them
abbrev pub with_local : List (List (Value Object)) → (local place : ℕ) → Value Object → List (List (Value Object))
with_local locals n i v = slice_set locals n (slice_set (slice_index_or locals n []) i v)

-- the memory with a value at a place of an object
abbrev pub memory_with : List Block → Object → (place : ℕ) → Value Object → List Block
memory_with [] o i v = []
memory_with (b ∷ bs) o i v =
    if nat_eq b.serial o.serial then record { serial = b.serial; locals = with_local b.locals o.local i v } ∷
    bs else b ∷ memory_with bs o i v

-- the memory without the locals of an activation; its objects are dead from now on
abbrev pub memory_without : List Block → (serial : ℕ) → List Block
memory_without [] serial = []
memory_without (b ∷ bs) serial = if nat_eq b.serial serial then bs else b ∷ memory_without bs serial

-- the step

-- a step: its act, the thread and the shared words after it, the words that it reads and writes by number, and
-- the place of its statement with the number of the module
pub record Step : Type 0 where
  pub act : Act
  pub next : Config
  pub words : List ℕ
  pub reads : List ℕ
  pub writes : List ℕ
  pub unit : ℕ
  pub place : Place

-- the context of a step: a thread that hasn't ended, with its newest activation, the older ones, and the shared words
pub record StepContext : Type 0 where
  pub config : Config
  pub newest : Activation
  pub older : List Activation
  pub words : List ℕ

-- what the items of the newest activation's module stand for
abbrev pub entity_in : Env → StepContext → (item : ℕ) → Option Entity
entity_in e h g = e.entity h.newest.function.unit g

abbrev pub eval_context_of : Env → StepContext → EvalContext Object
eval_context_of e h = record {
  entity = entity_in e h;
  own = λ n. record { serial = h.newest.serial; local = n };
  same = same_object;
}

-- the activations with this continuation of the newest one
abbrev pub doing : StepContext → List ContItem → List Activation
doing h cont =
    record { serial = h.newest.serial; function = h.newest.function; target = h.newest.target; cont = cont } ∷ h.older

-- the thread with these activations and this memory
abbrev pub thread_with : StepContext → List Activation → List Block → Config
thread_with h activations memory = record { activations = activations; memory = memory; fresh = h.config.fresh }

module _ (e : Env) (h : StepContext) where
  -- a step that leaves the shared words, after which the thread is this
  abbrev pub step_to : (reads : List ℕ) → Act → Config → Step
  step_to rs a next = record {
    act = a;
    next = next;
    words = h.words;
    reads = rs;
    writes = [];
    unit = h.newest.function.unit;
    place = place_of (e.function h.newest.function).closing h.newest.cont;
  }

  -- a Bad step; it changes nothing
  abbrev pub bad_step : (reads : List ℕ) → Why → Step
  bad_step rs why = step_to rs (act.Bad why) h.config

  -- a step after which the newest activation has this continuation
  abbrev pub goes_step : (reads : List ℕ) → Act → List ContItem → Step
  goes_step rs a cont = step_to rs a (thread_with h (doing h cont) h.config.memory)

  -- a step that writes the word with this number
  abbrev pub write_step : (reads : List ℕ) → (number value : ℕ) → List ContItem → Step
  write_step rs number n cont = record {
    act = act.Quiet;
    next = thread_with h (doing h cont) h.config.memory;
    words = slice_set h.words number n;
    reads = rs;
    writes = number ∷ [];
    unit = h.newest.function.unit;
    place = place_of (e.function h.newest.function).closing h.newest.cont;
  }

  -- the same if there is such a word, which holds this one before the step
  abbrev pub word_step : (reads : List ℕ) → (held : Option ℕ) → (number value : ℕ) → List ContItem → Option Step
  word_step rs None number n cont = None
  word_step rs (Some held) number n cont = Some (write_step rs number n cont)

  -- a step that writes a word of a shared global
  abbrev pub global_step : (reads : List ℕ) → Option Entity → (place value : ℕ) → List ContItem → Option Step
  global_step rs (Some (shared first len guard)) i n cont =
      word_step rs (slice_get h.words (first + i)) (first + i) n cont
  global_step rs _ i n cont = None

  -- a step that stores a value into a cell, which holds this one before the step
  abbrev pub store_step : (reads : List ℕ) → (held : Option (Value Object)) → Object → (place : ℕ) → Value Object →
      List ContItem → Option Step
  store_step rs None o i v cont = None
  store_step rs (Some held) o i v cont = Some (step_to rs act.Quiet
      (thread_with h (doing h cont) (memory_with h.config.memory o i v)))

-- the value of a local's cells at the start
abbrev pub zero_of : Ty → Value Object
zero_of (Ptr k) = null
zero_of _ = word 0

-- the locals of a new activation: the parameters have their arguments, the others 0 or null
abbrev pub locals_of : List Ty → (arguments : List (Value Object)) → List (List (Value Object))
locals_of [] vs = []
locals_of (ty ∷ tys) [] = replicate (words_of_ty ty) (zero_of ty) ∷ locals_of tys []
locals_of (ty ∷ tys) (v ∷ vs) = (v ∷ []) ∷ locals_of tys vs

-- the thread with these activations and this memory, after a call of this function with these arguments has begun
abbrev pub with_call : Env → List Activation → List Block → (serial : ℕ) → FunctionAt → List (Value Object) →
    Option Destination → Config
with_call e activations memory serial f vs target = record {
  activations = record { serial = serial; function = f; target = target; cont = begin_all (e.function f).body [] } ∷
      activations;
  memory = record { serial = serial; locals = locals_of (e.function f).locals vs } ∷ memory;
  fresh = serial + 1;
}

-- a returned value, converted to the type of the local that keeps it
abbrev pub converted : Ty → Value Object → Option (Value Object)
converted (Int k) (word n) = Some (word (narrowed n k))
converted (Ptr k) null = Some null
converted (Ptr k) (pointer o p) = Some (pointer o p)
converted _ v = None

-- the memory with a value in a cell, which holds this one before the step
abbrev pub memory_storing : List Block → (held : Option (Value Object)) → Object → (place : ℕ) →
    Option (Value Object) → Option (List Block)
memory_storing memory None o i v = None
memory_storing memory (Some held) o i None = None
memory_storing memory (Some held) o i (Some v) = Some (memory_with memory o i v)

-- the memory after the caller with this serial number has kept the returned value; a call without a value can't be kept
abbrev pub memory_keeping : List Block → (serial : ℕ) → Option Destination → Option (Value Object) → Option (List Block)
memory_keeping memory serial None v = Some memory
memory_keeping memory serial (Some d) None = None
memory_keeping memory serial (Some d) (Some v) =
    let o : Object = record { serial = serial; local = d.local } in memory_storing memory
    (value_at (cells_at memory o) 0) o 0 (converted d.ty v)

module _ (e : Env) (h : StepContext) where
  -- a call
  abbrev pub call_step : (reads : List ℕ) → Option Entity → List (Value Object) → Option Destination → List ContItem →
      Option Step
  call_step rs (Some (function f)) vs target cont =
      Some (step_to e h rs act.Quiet (with_call e (doing h cont) h.config.memory h.config.fresh f vs target))
  call_step rs _ vs target cont = None

  -- a return to these activations with this memory
  abbrev pub return_to : (reads : List ℕ) → (older : List Activation) → Option (List Block) → Option Step
  return_to rs older None = None
  return_to rs older (Some memory) = Some (step_to e h rs act.Quiet (thread_with h older memory))

  -- a return: to the caller, or, from the outermost activation, the end of the thread
  abbrev pub return_step : (reads : List ℕ) → (older : List Activation) → Option (Value Object) → Option Step
  return_step rs [] v = Some (step_to e h rs act.Done
      (thread_with h [] (memory_without h.config.memory h.newest.serial)))
  return_step rs (a ∷ older) v = return_to rs (a ∷ older)
      (memory_keeping (memory_without h.config.memory h.newest.serial) a.serial h.newest.target v)

  -- an act on a lock
  abbrev pub lock_step : (reads : List ℕ) → Option Entity → (ℕ → Act) → List ContItem → Option Step
  lock_step rs (Some (lock n)) a cont = Some (goes_step e h rs (a n) cont)
  lock_step rs _ a cont = None

  -- the step with this effect
  abbrev pub step_with_effect : Got (Effect Object) → Option Step
  step_with_effect (got_stuck rs) = None
  step_with_effect (bad rs why) = Some (bad_step e h rs why)
  step_with_effect (got rs (continues cont)) = Some (goes_step e h rs act.Quiet cont)
  step_with_effect (got rs (stores o i v cont)) = store_step e h rs (value_at (cells_at h.config.memory o) i) o i v cont
  step_with_effect (got rs (writes g i n cont)) = global_step e h rs (entity_in e h g) i n cont
  step_with_effect (got rs (calls g vs target cont)) = call_step rs (entity_in e h g) vs target cont
  step_with_effect (got rs (returns v)) = return_step rs h.older v
  step_with_effect (got rs (locks g cont)) = lock_step rs (entity_in e h g) act.Lock cont
  step_with_effect (got rs (unlocks g cont)) = lock_step rs (entity_in e h g) act.Unlock cont
  step_with_effect (got rs (prints n cont)) = Some (goes_step e h rs (act.Out n) cont)

  -- the step of the newest activation's first item
  abbrev pub newest_step : Option Step
  newest_step = step_with_effect (answered (entity_in e h) (slice_get h.words) (cells_at h.config.memory)
      (effect_of (eval_context_of e h) (e.function h.newest.function).ret h.newest.cont))

-- the next step of a thread over these shared words; none if it has ended, or is stuck, as no thread of typed
-- modules is
abbrev pub step_of : Env → List ℕ → Config → (activations : List Activation) → Option Step
step_of e ws c [] = None
step_of e ws c (a ∷ older) = newest_step e (record { config = c; newest = a; older = older; words = ws })

abbrev pub step : Env → List ℕ → Config → Option Step
step e ws c = step_of e ws c c.activations

-- the thread at the start of a function with these arguments
abbrev pub start : Env → FunctionAt → List (Value Object) → Config
start e f vs = with_call e [] [] 0 f vs None

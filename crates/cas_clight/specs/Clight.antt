-- Clight as a language of the layer of calls. The meaning of statements and expressions is that of a thread's step:
-- what they ask for is asked here of the thread's share and of blocks of memory, each local a block. What a call passes
-- to a
-- local, as an argument or as a result, is stored by the activation's next step, as a part of it: so each step of a
-- thread of a whole program is one step here.
use Rattle.std.specs.Prelude.{ℕ, zero, suc, ◌+◌, Bool, true, false, List, [], ◌∷◌, map, length, sum, Option, Some, None, slice_get}
use Rattle.cas_base.specs.Ty.{words_of_ty}
use Rattle.cas_base.specs.Word.{narrowed}
use Rattle.cas_base.specs.declared.decl.Decl.{Decl}
use Rattle.cas_base.specs.declared.decl.Form.{Form}
use Rattle.cas_base.specs.declared.decl.Form.TheVariants.{Lock, Shared, Table, Function}
use Rattle.cas_base.specs.declared.kind.Ty.{Ty}
use Rattle.cas_base.specs.declared.kind.Ty.TheVariants.{Int, Ptr}
use Rattle.cas_typed.specs.Counts.{parameter_types}
use Rattle.cas_typed.specs.Modules.{return_type}
use Rattle.cas_typed.specs.declared.tree.Destination.{Destination}
use Rattle.cas_typed.specs.Resolved.{TypedStmtList}
use Rattle.cas_step.specs.Asks as asks
use Rattle.cas_step.specs.Asks.{Asks}
use Rattle.cas_step.specs.Env as env
use Rattle.cas_step.specs.Env.{Entity}
use Rattle.cas_step.specs.Evaluate.{EvalContext}
use Rattle.cas_step.specs.Continuation as items
use Rattle.cas_step.specs.Continuation.{ContItem, begin_all, Effect, effect_of}
use Rattle.cas_runs.specs.Naming.{Home, Own, Value, Number, Pointer, same_home, usable}
use Rattle.cas_runs.specs.Bounds.{BySize}
use Rattle.cas_runs.specs.Access.{Accesses, Reads, Writes, Loads, Stores, Looks, Then, Fails, with_value}
use Rattle.cas_runs.specs.Calls.{Last, Goes, Takes, Gives, Puts, Calls, Returns, Activations}

-- a function with a body: what it is declared as, what its module declares, item by item, the types of its locals,
-- parameters first, its body, and how many nodes the text of its body has
pub record ClightFun : Type 0 where
  pub decl : Decl
  pub decls : List Decl
  pub locals : List Ty
  pub body : TypedStmtList
  pub nodes : ℕ

-- how many cells its locals have
abbrev pub cells_of : ClightFun → ℕ
cells_of f = sum (map words_of_ty f.locals)

-- how many parameters it has, and what it returns
abbrev pub parameters_of : ClightFun → ℕ
parameters_of f = length (parameter_types f.decl.form)

abbrev pub result_of : ClightFun → Ty
result_of f = return_type f.decl.form

-- an object: a block, and whether its only cell has a pointer. Pointers go to integers alone, so an object that is
-- reached by one has none
pub record Object : Type 0 where
  pub home : Home
  pub has_pointer : Bool

abbrev pub same_object : Object → Object → Bool
same_object a b = same_home a.home b.home

-- the value of the source that a cell's value is: null is the word 0
abbrev pub decoded : (has_pointer : Bool) → Value → Option (asks.Value Object)
decoded false (Number n) = Some (asks.word n)
decoded true (Number zero) = Some asks.null
decoded true (Pointer home place) = Some (asks.pointer (record { home = home; has_pointer = false }) place)
decoded _ _ = None

-- and back
abbrev pub encoded : asks.Value Object → Value
encoded (asks.word n) = Number n
encoded asks.null = Number 0
encoded (asks.pointer o p) = Pointer o.home p

-- what is asked, as accesses, and what follows. An item is named by its declaration
abbrev pub asked : {A L : Type 0} → List Decl → Asks Object A → (A → Accesses L) → Accesses L
asked ds (asks.gives a) next = next a
asked ds (asks.fails why) next = Fails
asked ds asks.stuck next = Fails
asked ds (asks.reads g i more) next =
    with_value (slice_get ds g) (λ (d : Decl). Reads d.name i (λ n. asked ds (more n) next))
asked ds (asks.looks o more) next = Looks o.home (λ size. asked ds (more size) next)
asked ds (asks.loads o p more) next =
    Loads o.home p (λ v. with_value (decoded o.has_pointer v) (λ u. asked ds (more u) next))

-- what an item is where its module is alone: evaluation asks for lengths
abbrev pub entity_by : Form → Entity
entity_by Lock = env.lock 0
entity_by (Shared ty guard) = env.shared 0 (words_of_ty ty) None
entity_by (Table ty) = env.table 0 (words_of_ty ty)
entity_by (Function ret params holds) = env.outside

abbrev pub entity_of : Option Decl → Option Entity
entity_of None = None
entity_of (Some d) = Some (entity_by d.form)

-- a local that keeps a pointer
abbrev pub keeps_pointer : Option Ty → Bool
keeps_pointer (Some (Ptr k)) = true
keeps_pointer _ = false

-- a value that was passed to a local and isn't stored yet
pub record Passed : Type 0 where
  pub local : ℕ
  pub value : Value

-- where an activation is: its function, its serial number, what was passed to it, and its continuation
pub record ClightState : Type 0 where
  pub function : ClightFun
  pub serial : ℕ
  pub passed : List Passed
  pub continuation : List ContItem

abbrev pub own_home : ClightFun → (serial local : ℕ) → Home
own_home f serial n = Own f.decl.name serial n

abbrev pub context_of : ClightFun → (serial : ℕ) → EvalContext Object
context_of f serial = record {
  entity = λ g. entity_of (slice_get f.decls g);
  own = λ n. record { home = own_home f serial n; has_pointer = keeps_pointer (slice_get f.locals n) };
  same = same_object;
}

-- the activation with this continuation, to which these values were passed
abbrev pub at : ClightFun → (serial : ℕ) → List Passed → List ContItem → ClightState
at f serial passed rest = record { function = f; serial = serial; passed = passed; continuation = rest }

-- a returned value, converted to the type of the local that keeps it
abbrev pub converted : Ty → Value → Option Value
converted (Int k) (Number n) = Some (Number (narrowed n k))
converted (Ptr k) (Number n) = Some (Number n)
converted (Ptr k) (Pointer home place) = Some (Pointer home place)
converted _ _ = None

abbrev pub passing : ClightFun → (serial : ℕ) → List ContItem → (local : ℕ) → Option Value → Option ClightState
passing f serial rest n None = None
passing f serial rest n (Some v) = Some (at f serial (record { local = n; value = v } ∷ []) rest)

-- the caller goes on with what was returned
abbrev pub resumed : ClightFun → (serial : ℕ) → List ContItem → Option Destination → List Value → Option ClightState
resumed f serial rest None vs = Some (at f serial [] rest)
resumed f serial rest (Some d) [] = None
resumed f serial rest (Some d) (v ∷ vs) = passing f serial rest d.local (converted d.ty v)

abbrev pub returned : Option (asks.Value Object) → List Value
returned None = []
returned (Some v) = encoded v ∷ []

abbrev pub goes : ClightFun → (serial : ℕ) → List ContItem → Accesses (Last ClightState)
goes f serial rest = Then (Goes (at f serial [] rest))

abbrev pub named : ClightFun → (item : ℕ) → (Decl → Accesses (Last ClightState)) → Accesses (Last ClightState)
named f g next = with_value (slice_get f.decls g) next

-- the effect of a step, as its last part
abbrev pub does : ClightFun → (serial : ℕ) → Effect Object → Accesses (Last ClightState)
does f serial (items.continues rest) = goes f serial rest
does f serial (items.stores o p v rest) = Stores o.home p (encoded v) (goes f serial rest)
does f serial (items.writes g i n rest) = named f g (λ d. Writes d.name i n (goes f serial rest))
does f serial (items.calls g vs target rest) =
    named f g (λ d. Then (Calls d.name (map encoded vs) (resumed f serial rest target)))
does f serial (items.returns v) = Then (Returns (returned v))
does f serial (items.locks g rest) = named f g (λ d. Then (Takes d.name (at f serial [] rest)))
does f serial (items.unlocks g rest) = named f g (λ d. Then (Gives d.name (at f serial [] rest)))
does f serial (items.prints n rest) = Then (Puts n (at f serial [] rest))

-- what was passed is stored first
abbrev pub storing : {L : Type 0} → ClightFun → (serial : ℕ) → List Passed → Accesses L → Accesses L
storing f serial [] next = next
storing f serial (h ∷ hs) next = Stores (own_home f serial h.local) 0 h.value (storing f serial hs next)

abbrev pub effect_at : ClightState → Accesses (Last ClightState)
effect_at a =
    asked a.function.decls (effect_of (context_of a.function a.serial) (result_of a.function) a.continuation)
    (does a.function a.serial)

abbrev pub step : ClightState → Accesses (Last ClightState)
step a = storing a.function a.serial a.passed (effect_at a)

abbrev pub also_passed : (local : ℕ) → Option Value → Option (List Passed) → Option (List Passed)
also_passed k v None = None
also_passed k None (Some hs) = None
also_passed k (Some v) (Some hs) = Some (record { local = k; value = v } ∷ hs)

-- so many arguments, from this local on; one that may only be kept is refused
abbrev pub arguments : (local count : ℕ) → List Value → Option (List Passed)
arguments k zero [] = Some []
arguments k zero (v ∷ vs) = None
arguments k (suc count) [] = None
arguments k (suc count) (v ∷ vs) = also_passed k (usable v) (arguments (k + 1) count vs)

abbrev pub begun : ClightFun → (serial : ℕ) → Option (List Passed) → Option ClightState
begun f serial None = None
begun f serial (Some hs) = Some (at f serial hs (begin_all f.body []))

abbrev pub enter : ClightFun → (serial : ℕ) → List Value → Option ClightState
enter f serial vs = begun f serial (arguments 0 (parameters_of f) vs)

-- Clight
abbrev pub clight : Activations ClightFun ClightState
clight = record {
  name = λ f. f.decl.name;
  blocks = λ f. map words_of_ty f.locals;
  first_word = Number 0;
  enter = enter;
  form = step;
  tariff = BySize (λ f. f.nodes) cells_of;
}

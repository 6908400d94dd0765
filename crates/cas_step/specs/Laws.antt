-- The laws of steps.
use Rattle.std.specs.Prelude.{◌≡◌, ⊤, ℕ, ◌+◌, ◌<◌, ◌≤◌, List, [], ◌∷◌, ◌++◌, length, Option, Some, None, slice_get, Contains}
use Rattle.cas_base.specs.declared.act.Act.{Act}
use Rattle.cas_base.specs.declared.act.Act.TheVariants as act
use Rattle.cas_typed.specs.Resolved as t
use Rattle.cas_typed.specs.Resolved.{TypedExprTree, TypedTargetTree, to_local, to_global, to_element, to_behind, TypedStmtTree, skip, assign, call, block, if_, while_, do_, for_, break_, continue_, return_, lock, unlock, print, TypedModuleTree, absent, present}
use Rattle.cas_step.specs.Env.{FunctionAt, shared, table, Env}
use Rattle.cas_step.specs.Well_formed.{IsWellFormed, AreEntries, IsWellTypedStore, IsReachable}
use Rattle.cas_step.specs.Continuation.{ContItem, begin, begun, loop, next}
use Rattle.cas_step.specs.Step.{Activation, Config, Step, step}

-- the globals that are named, in order of text

abbrev pub names : TypedExprTree → List ℕ
names (t.literal n) = []
names t.null = []
names (t.local n) = []
names (t.global g at) = g ∷ []
names (t.element g at sign a) = g ∷ names a
names (t.place_of n) = []
names (t.behind k p) = names p
names (t.pointer_plus sign p a) = names p ++ names a
names (t.plus_pointer sign a p) = names a ++ names p
names (t.pointer_minus sign p a) = names p ++ names a
names (t.pointer_difference p q) = names p ++ names q
names (t.compare op p q) = names p ++ names q
names (t.unary op a) = names a
names (t.binary op sign a b) = names a ++ names b
names (t.narrow k a) = names a
names (t.and_also a b) = names a ++ names b
names (t.or_else a b) = names a ++ names b
names (t.choose c a b) = names c ++ names a ++ names b

abbrev pub target_names : TypedTargetTree → List ℕ
target_names (to_local n) = []
target_names (to_global g at) = g ∷ []
target_names (to_element g at sign a) = g ∷ names a
target_names (to_behind k p) = names p

abbrev pub option_names : Option TypedExprTree → List ℕ
option_names None = []
option_names (Some a) = names a

abbrev pub names_of_all : List TypedExprTree → List ℕ
names_of_all [] = []
names_of_all (a ∷ args) = names a ++ names_of_all args

-- those in a statement's own expressions
abbrev pub statement_names : TypedStmtTree → List ℕ
statement_names (assign p target a) = target_names target ++ names a
statement_names (call p kept g at args) = names_of_all args
statement_names (if_ p c a otherwise) = names c
statement_names (while_ p c a) = names c
statement_names (return_ p a) = option_names a
statement_names (print p a) = names a
statement_names _ = []

-- those of the first item of a continuation
abbrev pub item_names : List ContItem → List ℕ
item_names [] = []
item_names (begin a ∷ cont) = statement_names a
item_names (begun p c a ∷ cont) = names c
item_names (loop p c after a ∷ cont) = option_names c
item_names (next p absent ∷ cont) = []
item_names (next p (present a) ∷ cont) = statement_names a

-- the word with this number belongs to one of these shared globals of a module
abbrev pub IsWordOf : Env → (unit : ℕ) → (globals : List ℕ) → (number : ℕ) → Type 0
IsWordOf e unit globals n = (g first len : ℕ) × (guard : Option ℕ) × Contains globals g ×
    (e.entity unit g ≡ Some (shared first len guard)) × (first ≤ n) × (n < first + len)

-- A thread's footprint has only words of shared globals that its statement names.
abbrev pub FootprintsAreNamed : Type 0
FootprintsAreNamed = (e : Env) (ws : List ℕ) (c : Config) (a : Activation) (older : List Activation) (s : Step) →
    c.activations ≡ a ∷ older → step e ws c ≡ Some s → (n : ℕ) → Contains (s.reads ++ s.writes) n →
    IsWordOf e a.function.unit (item_names a.cont) n

-- the same words in all tables of constants
abbrev pub AgreeOnTables : Env → (ws vs : List ℕ) → Type 0
AgreeOnTables e ws vs = (unit g first len i : ℕ) → e.entity unit g ≡ Some (table first len) → i < len →
    slice_get ws (first + i) ≡ slice_get vs (first + i)

-- the words after a step are those before it, except the written ones, which are these
abbrev pub ChangesOnly : (written : List ℕ) → (before after these : List ℕ) → Type 0
ChangesOnly written before after these =
    ((n : ℕ) → Contains written n → slice_get after n ≡ slice_get these n) ×
    ((n : ℕ) → (Contains written n → ⊥) → slice_get after n ≡ slice_get before n)

-- the second step does the same as the first, over these words
pub record AreSame (vs : List ℕ) (s r : Step) : Type 0 where
  pub act : r.act ≡ s.act
  pub next : r.next ≡ s.next
  pub reads : r.reads ≡ s.reads
  pub writes : r.writes ≡ s.writes
  pub unit : r.unit ≡ s.unit
  pub place : r.place ≡ s.place
  pub words : ChangesOnly s.writes vs r.words s.words

-- A step is determined by the configuration, the words that it reads, and the tables of constants, which never change.
abbrev pub StepsAreDetermined : Type 0
StepsAreDetermined = (e : Env) (ws vs : List ℕ) (c : Config) (s : Step) → length ws ≡ length vs →
    AgreeOnTables e ws vs →
    step e ws c ≡ Some s → ((n : ℕ) → Contains s.reads n → slice_get ws n ≡ slice_get vs n) →
    (r : Step) × (step e vs c ≡ Some r) × AreSame vs s r

-- A step changes only words that its footprint reports as written.
abbrev pub WritesAreReported : Type 0
WritesAreReported = (e : Env) (ws : List ℕ) (c : Config) (s : Step) → step e ws c ≡ Some s →
    ChangesOnly s.writes ws s.words s.words

-- Tables of constants never change.
abbrev pub TablesStay : Type 0
TablesStay = (modules : List TypedModuleTree) (e : Env) (ws : List ℕ) (c : Config) (s : Step) →
    IsWellFormed modules e → step e ws c ≡ Some s → AgreeOnTables e ws s.words

-- a step that isn't Bad
abbrev pub IsTaken : Act → Type 0
IsTaken (act.Bad why) = ⊥
IsTaken _ = ⊤

-- A reachable thread that hasn't ended has a step over each well-typed store, so it is never stuck. Unless the step
-- is Bad, the next configuration is reachable and the next store well-typed.
abbrev pub ReachableThreadsStep : Type 0
ReachableThreadsStep = (modules : List TypedModuleTree) (e : Env) (entries : List FunctionAt) (ws : List ℕ)
    (c : Config) (a : Activation) (older : List Activation) →
    IsWellFormed modules e → AreEntries modules e entries → IsReachable e entries c → IsWellTypedStore e ws →
    c.activations ≡ a ∷ older →
    (s : Step) × (step e ws c ≡ Some s) × (IsTaken s.act → IsReachable e entries s.next × IsWellTypedStore e s.words)

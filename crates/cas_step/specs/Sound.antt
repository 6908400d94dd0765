-- Sound threads, and type soundness. In a sound thread values have the types of their cells, pointers go to places
-- within or at the end of objects of their kind, and continuations are parts of the functions' bodies. Each
-- reachable thread is sound.
use Rattle.std.specs.Prelude.{◌≡◌, ⊤, ℕ, ◌^◌, ◌<◌, ◌≤◌, nat_eq, if◌then◌else◌, IsTrue, List, [], ◌∷◌, length, map, Option, Some, None, slice_get}
use Rattle.cas_base.specs.Kind.{is_of_kind}
use Rattle.cas_base.specs.Ty.{words_of_ty}
use Rattle.cas_base.specs.declared.kind.Kind.{Kind}
use Rattle.cas_base.specs.declared.kind.Ty.{Ty}
use Rattle.cas_base.specs.declared.kind.Ty.TheVariants.{Int, Ptr, Array}
use Rattle.cas_typed.specs.Resolved.{TypedExprTree, TypedFunTree, TypedModuleTree}
use Rattle.cas_typed.specs.Modules.{decls_of}
use Rattle.cas_typed.specs.Sorts as sorts
use Rattle.cas_typed.specs.Sorts.{Sort, HasSort, MayKeep}
use Rattle.cas_step.specs.Asks.{Value, word, null, pointer}
use Rattle.cas_step.specs.Env.{FunctionAt, Env}
use Rattle.cas_step.specs.Evaluate.{value_of}
use Rattle.cas_step.specs.Well_formed.{IsAt, IsWellFormed, AreEntries, IsWellTypedStore, IsReachable}
use Rattle.cas_typed.specs.Literals.{HasWords}
use Rattle.cas_step.specs.Stands.{MayDo}
use Rattle.cas_step.specs.Answered.{Got, got, bad, got_stuck, answered}
use Rattle.cas_step.specs.Step.{Object, Activation, Block, Config, cells_at, eval_context_of, Step, step}

-- the types of an activation's locals
abbrev pub types_of : Env → Activation → List Ty
types_of e a = (e.function a.function).locals

-- the types of the locals of the activation with this serial number; none if it has returned
abbrev pub types_at : Env → List Activation → (serial : ℕ) → Option (List Ty)
types_at e [] serial = None
types_at e (a ∷ older) serial = if nat_eq a.serial serial then Some (types_of e a) else types_at e older serial

-- a local that is an object of cells of this kind
abbrev pub IsObjectOf : Ty → Kind → Type 0
IsObjectOf (Int j) k = j ≡ k
IsObjectOf (Array j n) k = j ≡ k
IsObjectOf _ k = ⊥

-- a pointer to cells of this kind: its object's activation has begun; and unless that has returned, the object is of
-- the kind and the place is within it or at its end
pub record PointsTo (e : Env) (c : Config) (k : Kind) (o : Object) (p : ℕ) : Type 0 where
  pub begun_before : o.serial < c.fresh
  pub in_reach : (tys : List Ty) → types_at e c.activations o.serial ≡ Some tys →
      (ty : Ty) × (slice_get tys o.local ≡ Some ty) × IsObjectOf ty k × (p ≤ words_of_ty ty)

-- the value is of this type
abbrev pub IsOfType : Env → Config → Ty → Value Object → Type 0
IsOfType e c (Int k) (word n) = IsTrue (is_of_kind n k)
IsOfType e c (Ptr k) null = ⊤
IsOfType e c (Ptr k) (pointer o p) = PointsTo e c k o p
IsOfType e c _ _ = ⊥

-- the type of each of a local's cells
abbrev pub cell_type : Ty → Ty
cell_type (Array k n) = Int k
cell_type ty = ty

abbrev pub EachOfType : Env → Config → Ty → List (Value Object) → Type 0
EachOfType e c ty [] = ⊤
EachOfType e c ty (v ∷ vs) = IsOfType e c ty v × EachOfType e c ty vs

-- locals of these types, each with as many cells as its type has
abbrev pub AreLocals : Env → Config → List Ty → List (List (Value Object)) → Type 0
AreLocals e c [] [] = ⊤
AreLocals e c (ty ∷ tys) (cells ∷ locals) = (length cells ≡ words_of_ty ty) × EachOfType e c (cell_type ty) cells ×
    AreLocals e c tys locals
AreLocals e c _ _ = ⊥

-- the memory has the locals of these activations, and no others
abbrev pub AreBlocks : Env → Config → List Activation → List Block → Type 0
AreBlocks e c [] [] = ⊤
AreBlocks e c (a ∷ older) (b ∷ bs) = (b.serial ≡ a.serial) × AreLocals e c (types_of e a) b.locals ×
    AreBlocks e c older bs
AreBlocks e c _ _ = ⊥

-- an activation of a function of these modules, whose continuation belongs to the function's body
pub record IsSoundActivation (modules : List TypedModuleTree) (e : Env) (a : Activation) : Type 0 where
  pub unit : TypedModuleTree
  pub it : TypedFunTree
  pub at_place : IsAt modules a.function unit it
  pub doing : MayDo (e.function a.function).body a.cont

-- the caller may keep what the newer activation returns
abbrev pub CallerKeeps : Env → Activation → List Activation → Type 0
CallerKeeps e a [] = ⊤
CallerKeeps e a (caller ∷ older) = MayKeep (types_of e caller) a.target (e.function a.function).ret

-- activations, the newest first: each has a serial number below this one, and above those of the older ones
abbrev pub AreActivations : List TypedModuleTree → Env → (before : ℕ) → List Activation → Type 0
AreActivations modules e before [] = ⊤
AreActivations modules e before (a ∷ older) =
    (a.serial < before) × IsSoundActivation modules e a × CallerKeeps e a older ×
    AreActivations modules e a.serial older

-- a thread is sound
pub record IsSound (modules : List TypedModuleTree) (e : Env) (c : Config) : Type 0 where
  pub activations : AreActivations modules e c.fresh c.activations
  pub memory : AreBlocks e c c.activations c.memory

-- Each reachable thread is sound.
abbrev pub ReachableThreadsAreSound : Type 0
ReachableThreadsAreSound = (modules : List TypedModuleTree) (e : Env) (entries : List FunctionAt) (c : Config) →
    IsWellFormed modules e → AreEntries modules e entries → IsReachable e entries c → IsSound modules e c

-- Progress: a sound thread that hasn't ended has a step over each well-typed store. Preservation: after the step the
-- thread is sound and the store well-typed.
abbrev pub ProgressAndPreservation : Type 0
ProgressAndPreservation = (modules : List TypedModuleTree) (e : Env) (ws : List ℕ) (c : Config) (a : Activation)
    (older : List Activation) →
    IsWellFormed modules e → IsSound modules e c → IsWellTypedStore e ws → c.activations ≡ a ∷ older →
    (s : Step) × (step e ws c ≡ Some s) × IsSound modules e s.next × IsWellTypedStore e s.words

-- the value is of this sort
abbrev pub IsOfSort : Env → Config → Sort → Value Object → Type 0
IsOfSort e c sorts.word (word n) = n < 2 ^ 32
IsOfSort e c (sorts.pointer k) null = ⊤
IsOfSort e c (sorts.pointer k) (pointer o p) = PointsTo e c k o p
IsOfSort e c _ _ = ⊥

-- the result is so, if there is one, and the evaluation isn't stuck
abbrev pub Gets : {A : Type 0} → (A → Type 0) → Got A → Type 0
Gets P (got rs a) = P a
Gets P (bad rs why) = ⊤
Gets P (got_stuck rs) = ⊥

-- In a sound thread a well-sorted expression has a value of its sort, or fails, but is never stuck.
abbrev pub ValuesAreSorted : Type 0
ValuesAreSorted = (modules : List TypedModuleTree) (e : Env) (ws : List ℕ) (c : Config) (a : Activation)
    (older : List Activation) (unit : TypedModuleTree) (x : TypedExprTree) (sort : Sort) →
    IsWellFormed modules e → IsSound modules e c → IsWellTypedStore e ws → c.activations ≡ a ∷ older →
    slice_get modules a.function.unit ≡ Some unit →
    HasSort (types_of e a) (decls_of unit) x sort → HasWords x →
    Gets (IsOfSort e c sort) (answered (e.entity a.function.unit) (slice_get ws) (cells_at c.memory)
    (value_of (eval_context_of e (record { config = c; newest = a; older = older; words = ws })) x))

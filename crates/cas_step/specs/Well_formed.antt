-- Well-formed environments, well-typed stores, and reachable threads.
use Rattle.std.specs.Prelude.{◌≡◌, ⊤, ℕ, ◌+◌, ◌^◌, ◌<◌, ◌≤◌, IsTrue, List, [], ◌∷◌, map, take, length, Option, Some, None, slice_get, All}
use Rattle.cas_base.specs.Kind.{is_of_kind}
use Rattle.cas_base.specs.Ty.{words_of_ty}
use Rattle.cas_base.specs.declared.decl.Decl.{Decl}
use Rattle.cas_base.specs.declared.decl.Form.{Form}
use Rattle.cas_base.specs.declared.decl.Form.TheVariants.{Lock, Shared, Table, Function as AFunction}
use Rattle.cas_base.specs.declared.kind.Kind.{Kind}
use Rattle.cas_base.specs.declared.kind.Kind.TheVariants.{I32}
use Rattle.cas_base.specs.declared.kind.Ty.{Ty}
use Rattle.cas_base.specs.declared.kind.Ty.TheVariants.{Void, Int, Array}
use Rattle.cas_syntax.specs.Tree.{FunTree, define}
use Rattle.cas_typed.specs.Modules.{return_type, decls_of}
use Rattle.cas_typed.specs.Resolved.{TypedFunTree, TypedModuleTree}
use Rattle.cas_typed.specs.Sorts.{IsSortedModule}
use Rattle.cas_step.specs.Asks.{word}
use Rattle.cas_step.specs.Env.{FunctionAt, Function, Entity, function, shared, table, lock, Env}
use Rattle.cas_typed.specs.Literals.{BodyHasWords}
use Rattle.cas_step.specs.Step.{Config, Step, step, start}

-- the function at this place
pub record IsAt (modules : List TypedModuleTree) (f : FunctionAt) (unit : TypedModuleTree)
    (it : TypedFunTree) : Type 0 where
  pub unit_is : slice_get modules f.unit ≡ Some unit
  pub function_is : slice_get unit.functions f.place ≡ Some it

-- the function is as in its module: its item's return type and closing brace, its locals, and its body, whose
-- literals are words
pub record IsFunctionOf (unit : TypedModuleTree) (it : TypedFunTree) (f : Function) : Type 0 where
  pub tree : FunTree
  pub item : slice_get unit.module_tree.items it.item ≡ Some (define tree)
  pub ret : f.ret ≡ return_type tree.decl.form
  pub locals : f.locals ≡ map (λ v. v.ty) it.locals
  pub body : f.body ≡ it.body
  pub closing : f.closing ≡ tree.closing
  pub literals : BodyHasWords it.body

-- a function with this return type and these parameters
pub record HasSignature (f : Function) (ret : Ty) (params : List Ty) : Type 0 where
  pub returns_so : f.ret ≡ ret
  pub takes : take (length params) f.locals ≡ params

-- the kind of the words of a global of this type
abbrev pub kind_of : Ty → Option Kind
kind_of (Int k) = Some k
kind_of (Array k n) = Some k
kind_of _ = None

-- the words from this one on, as many as the type has, have the type's kind
abbrev pub AreCells : List (Option Kind) → (first : ℕ) → Ty → Type 0
AreCells kinds first ty = (i : ℕ) → i < words_of_ty ty → slice_get kinds (first + i) ≡ Some (kind_of ty)

-- what a declaration stands for in a whole program: a function with its signature, words of its type, or a lock's word
abbrev pub StandsFor : List TypedModuleTree → Env → Form → Option Entity → Type 0
StandsFor modules e (AFunction ret params holds) (Some (function f)) =
    (unit : TypedModuleTree) × (it : TypedFunTree) × IsAt modules f unit it × HasSignature (e.function f) ret params
StandsFor modules e (Shared ty name) (Some (shared first n guard)) = (n ≡ words_of_ty ty) × AreCells e.kinds first ty
StandsFor modules e (Table ty) (Some (table first n)) = (n ≡ words_of_ty ty) × AreCells e.kinds first ty
StandsFor modules e Lock (Some (lock n)) = slice_get e.kinds n ≡ Some None
StandsFor modules e _ _ = ⊥

-- the word with this number belongs to a global or a lock
abbrev pub HasWord : Entity → (number : ℕ) → Type 0
HasWord (shared first n guard) w = (first ≤ w) × (w < first + n)
HasWord (table first n) w = (first ≤ w) × (w < first + n)
HasWord (lock n) w = n ≡ w
HasWord _ w = ⊥

-- the environment is well-formed for these modules: the modules are well sorted, their functions are as they say,
-- each declaration stands for what it declares, and no word belongs to two globals or locks. `env_of` is the
-- environment of a program.
pub record IsWellFormed (modules : List TypedModuleTree) (e : Env) : Type 0 where
  pub sorted : All IsSortedModule modules
  pub functions : (f : FunctionAt) (unit : TypedModuleTree) (it : TypedFunTree) → IsAt modules f unit it →
      IsFunctionOf unit it (e.function f)
  pub entities : (n g : ℕ) (unit : TypedModuleTree) (d : Decl) → slice_get modules n ≡ Some unit →
      slice_get (decls_of unit) g ≡ Some d → StandsFor modules e d.form (e.entity n g)
  pub apart : (n g m h w : ℕ) (it other : Entity) → e.entity n g ≡ Some it → e.entity m h ≡ Some other → HasWord it w →
      HasWord other w → it ≡ other

-- each entry is a function of these modules that takes the thread's number; the numbers are words
pub record AreEntries (modules : List TypedModuleTree) (e : Env) (entries : List FunctionAt) : Type 0 where
  pub count : length entries ≤ 2 ^ 32
  pub each : (thread : ℕ) (f : FunctionAt) → slice_get entries thread ≡ Some f →
      (unit : TypedModuleTree) × (it : TypedFunTree) × IsAt modules f unit it ×
      HasSignature (e.function f) Void (Int I32 ∷ [])

-- the word is a value of the kind; the word of a lock may be any
abbrev pub IsWellTypedWord : Option Kind → ℕ → Type 0
IsWellTypedWord None n = ⊤
IsWellTypedWord (Some k) n = IsTrue (is_of_kind n k)

abbrev pub AreWellTypedWords : List (Option Kind) → List ℕ → Type 0
AreWellTypedWords [] [] = ⊤
AreWellTypedWords (k ∷ ks) (n ∷ ns) = IsWellTypedWord k n × AreWellTypedWords ks ns
AreWellTypedWords _ _ = ⊥

-- the store is well-typed: it has as many words as the program, and each word of a global is a value of its kind
abbrev pub IsWellTypedStore : Env → List ℕ → Type 0
IsWellTypedStore e ws = AreWellTypedWords e.kinds ws

-- the thread is reachable: it starts at an entry with its number, and takes steps, each over some well-typed store
pub data IsReachable (e : Env) (entries : List FunctionAt) : Config → Type 0 where
  at_start : (thread : ℕ) (f : FunctionAt) → slice_get entries thread ≡ Some f →
      IsReachable e entries (start e f (word thread ∷ []))
  and_step : (c : Config) (ws : List ℕ) (s : Step) → IsReachable e entries c → IsWellTypedStore e ws →
      step e ws c ≡ Some s → IsReachable e entries s.next

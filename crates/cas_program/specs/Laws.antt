-- The laws of programs: the environment of a program is well-formed, and declarations of one name in several modules
-- declare one thing. A lock is identified by its word in the program.
use Rattle.std.specs.Prelude.{◌≡◌, ◌↔◌, ℕ, ◌+◌, ◌^◌, ◌<◌, ◌≤◌, true, IsTrue, List, [], length, Option, Some, None, slice_get, Contains}
use Rattle.cas_base.specs.Decl.{agrees}
use Rattle.cas_base.specs.declared.decl.Decl.{Decl}
use Rattle.cas_base.specs.declared.decl.Form.TheVariants.{Lock, Shared, Function as AFunction}
use Rattle.cas_base.specs.declared.kind.Ty.{Ty}
use Rattle.cas_base.specs.declared.place.Place.{Place}
use Rattle.cas_own.specs.Locks.{guard_of, holds_of}
use Rattle.cas_settle.specs.Settle.{place_of as place_named}
use Rattle.cas_step.specs.Env.{FunctionAt, Entity, function, shared, table, lock}
use Rattle.cas_step.specs.Well_formed.{IsAt, IsWellFormed, AreEntries, IsWellTypedStore, HasWord}
use Rattle.cas_syntax.specs.Tree.{global}
use Rattle.cas_typed.specs.Resolved.{TypedFunTree, TypedModuleTree}
use Rattle.cas_program.specs.Program.{IsProgram, units_of, env_of, entries_of, initial_words}
use Rattle.cas_typed.specs.Modules.{decls_of}

-- in the module with this number, the item with this number declares this
abbrev pub Declares : List TypedModuleTree → (unit item : ℕ) → Decl → Type 0
Declares modules n g d = (decls : List Decl) × (slice_get (units_of modules) n ≡ Some decls) ×
    (slice_get decls g ≡ Some d)

-- The environment of a program is well-formed.
abbrev pub EnvironmentsAreWellFormed : Type 0
EnvironmentsAreWellFormed = (modules : List TypedModuleTree) (entries : List (List ℕ)) → IsProgram modules entries →
    IsWellFormed modules (env_of modules)

-- the entries are the functions of these names, in their order
pub record AreInOrder (modules : List TypedModuleTree) (names : List (List ℕ)) : Type 0 where
  pub count : length (entries_of modules names) ≡ length names
  pub each : (thread : ℕ) (name : List ℕ) → slice_get names thread ≡ Some name →
      (f : FunctionAt) × (place_named (units_of modules) name ≡ Some (f.unit, f.place)) ×
      (slice_get (entries_of modules names) thread ≡ Some f)

-- The entries of a program are the functions of the names. Threads may begin there, if there are no more of them
-- than words.
abbrev pub EntriesAreInOrder : Type 0
EntriesAreInOrder = (modules : List TypedModuleTree) (entries : List (List ℕ)) → IsProgram modules entries →
    AreInOrder modules entries

abbrev pub EntriesAreEntered : Type 0
EntriesAreEntered = (modules : List TypedModuleTree) (entries : List (List ℕ)) → IsProgram modules entries →
    length entries ≤ 2 ^ 32 →
    AreEntries modules (env_of modules) (entries_of modules entries)

-- A thread holds no lock at its entry.
abbrev pub EntriesHoldNone : Type 0
EntriesHoldNone = (modules : List TypedModuleTree) (entries : List (List ℕ)) → IsProgram modules entries →
    (thread : ℕ) (f : FunctionAt) → slice_get (entries_of modules entries) thread ≡ Some f →
    (unit : TypedModuleTree) × (it : TypedFunTree) × IsAt modules f unit it × (holds_of (decls_of unit) it.item ≡ [])

-- The initial store of a program is well-typed, and has as many words as the program has kinds.
abbrev pub InitialStoreIsWellTyped : Type 0
InitialStoreIsWellTyped = (modules : List TypedModuleTree) (entries : List (List ℕ)) → IsProgram modules entries →
    (length (initial_words modules) ≡ length (env_of modules).kinds) ×
    IsWellTypedStore (env_of modules) (initial_words modules)

-- Each guard is the word of a lock of the program.
abbrev pub GuardsAreWords : Type 0
GuardsAreWords = (modules : List TypedModuleTree) (entries : List (List ℕ)) → IsProgram modules entries →
    (n g first len w : ℕ) →
    (env_of modules).entity n g ≡ Some (shared first len (Some w)) →
    (w < length (initial_words modules)) × (slice_get (env_of modules).kinds w ≡ Some None)

-- the entity is a shared global or a table with this first word and this length
abbrev pub IsCell : Option Entity → (first len : ℕ) → Type 0
IsCell (Some (shared first n guard)) at len = (first ≡ at) × (n ≡ len)
IsCell (Some (table first n)) at len = (first ≡ at) × (n ≡ len)
IsCell _ at len = ⊥

-- a module defines this name, with this many values; and these are the program's initial words from this one on
pub record HasValues (modules : List TypedModuleTree) (name : List ℕ) (first len : ℕ) : Type 0 where
  pub unit : ℕ
  pub item : ℕ
  pub unit_tree : TypedModuleTree
  pub decl : Decl
  pub values : List ℕ
  pub place : Place
  pub unit_is : slice_get modules unit ≡ Some unit_tree
  pub item_is : slice_get unit_tree.module_tree.items item ≡ Some (global decl values place)
  pub defines : decl.defined ≡ true
  pub named : decl.name ≡ name
  pub count : length values ≡ len
  pub words : (k n : ℕ) → slice_get values k ≡ Some n → slice_get (initial_words modules) (first + k) ≡ Some n

-- The initial value of each word of a global is its value at the global's definition. A typed module has a value for
-- each word: 0 if the text has none.
abbrev pub InitialValuesStand : Type 0
InitialValuesStand = (modules : List TypedModuleTree) (entries : List (List ℕ)) → IsProgram modules entries →
    (n g first len : ℕ) (d : Decl) →
    Declares modules n g d → IsCell ((env_of modules).entity n g) first len → HasValues modules d.name first len

-- The initial word of a lock is 1.
abbrev pub LocksBeginFree : Type 0
LocksBeginFree = (modules : List TypedModuleTree) (entries : List (List ℕ)) → IsProgram modules entries → (n l w : ℕ) →
    (env_of modules).entity n l ≡ Some (lock w) → slice_get (initial_words modules) w ≡ Some 1

-- guards

-- A shared global whose guard is a lock in its module has the word of that lock as its guard.
abbrev pub GuardsAreLocks : Type 0
GuardsAreLocks = (modules : List TypedModuleTree) (entries : List (List ℕ)) → IsProgram modules entries →
    (n g l : ℕ) (decls : List Decl) → slice_get (units_of modules) n ≡ Some decls → guard_of decls g ≡ Some l →
    (first len w : ℕ) × ((env_of modules).entity n g ≡ Some (shared first len (Some w))) ×
    ((env_of modules).entity n l ≡ Some (lock w))

-- An item that stands for a shared global is declared as one, and an item that stands for a lock as a lock.
abbrev pub SharedAreDeclared : Type 0
SharedAreDeclared = (modules : List TypedModuleTree) (entries : List (List ℕ)) → IsProgram modules entries →
    (n g first len : ℕ) (guard : Option ℕ) → (env_of modules).entity n g ≡ Some (shared first len guard) →
    (d : Decl) × Declares modules n g d × (ty : Ty) × (name : List ℕ) × (d.form ≡ Shared ty name)

abbrev pub LocksAreDeclared : Type 0
LocksAreDeclared = (modules : List TypedModuleTree) (entries : List (List ℕ)) → IsProgram modules entries →
    (n l w : ℕ) → (env_of modules).entity n l ≡ Some (lock w) → (d : Decl) × Declares modules n l d × (d.form ≡ Lock)

-- Locks have words, which are equal exactly if their names are equal, in whichever modules.
abbrev pub LocksAreByName : Type 0
LocksAreByName = (modules : List TypedModuleTree) (entries : List (List ℕ)) → IsProgram modules entries →
    (n l m k : ℕ) (d e : Decl) → Declares modules n l d → d.form ≡ Lock → Declares modules m k e → e.form ≡ Lock →
    (w v : ℕ) × ((env_of modules).entity n l ≡ Some (lock w)) × ((env_of modules).entity m k ≡ Some (lock v)) ×
    ((w ≡ v) ↔ (d.name ≡ e.name))

-- declarations of one name

-- Declarations of one name, in whichever modules, stand for the same and agree.
abbrev pub DeclarationsAgree : Type 0
DeclarationsAgree = (modules : List TypedModuleTree) (entries : List (List ℕ)) → IsProgram modules entries →
    (n g m h : ℕ) (d e : Decl) → Declares modules n g d → Declares modules m h e → d.name ≡ e.name →
    ((env_of modules).entity n g ≡ (env_of modules).entity m h) × IsTrue (agrees d.form e.form)

-- the word is that of a lock that the item's `holds` names in its module
abbrev pub HoldsWord : List TypedModuleTree → (unit item word : ℕ) → Type 0
HoldsWord modules n g w = (decls : List Decl) × (l : ℕ) × (slice_get (units_of modules) n ≡ Some decls) ×
    Contains (holds_of decls g) l × ((env_of modules).entity n l ≡ Some (lock w))

-- two items declare functions with the same signature, whose callers hold locks with the same words
pub record AreSameFunctions (modules : List TypedModuleTree) (n g m h : ℕ) : Type 0 where
  pub here : Decl
  pub there : Decl
  pub ret : Ty
  pub params : List Ty
  pub holds : List (List ℕ)
  pub held : List (List ℕ)
  pub declared_here : Declares modules n g here
  pub declared_there : Declares modules m h there
  pub form_here : here.form ≡ AFunction ret params holds
  pub form_there : there.form ≡ AFunction ret params held
  pub words : (w : ℕ) → HoldsWord modules n g w ↔ HoldsWord modules m h w

-- An item that stands for a function is declared like the item that has the function's body.
abbrev pub FunctionsAgree : Type 0
FunctionsAgree = (modules : List TypedModuleTree) (entries : List (List ℕ)) → IsProgram modules entries →
    (n g : ℕ) (f : FunctionAt) → (env_of modules).entity n g ≡ Some (function f) →
    (unit : TypedModuleTree) × (it : TypedFunTree) × IsAt modules f unit it ×
    AreSameFunctions modules n g f.unit it.item

-- Items that stand for shared globals with a word in common have the same guard.
abbrev pub GuardsAgree : Type 0
GuardsAgree = (modules : List TypedModuleTree) (entries : List (List ℕ)) → IsProgram modules entries →
    (n g first len m h start count w : ℕ) (guard other : Option ℕ) →
    (env_of modules).entity n g ≡ Some (shared first len guard) →
    (env_of modules).entity m h ≡ Some (shared start count other) →
    HasWord (shared first len guard) w → HasWord (shared start count other) w → guard ≡ other

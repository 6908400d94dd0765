-- The ownership check: which modules are checked, and the first fault of the others.
use Rattle.std.specs.Prelude.{◌≡◌, ℕ, List, [], ◌∷◌, ◌++◌, Option, Some, None, slice_get}
use Rattle.cas_base.specs.declared.decl.Decl.{Decl}
use Rattle.cas_base.specs.declared.decl.Form.{Form}
use Rattle.cas_base.specs.declared.decl.Form.TheVariants.{Shared}
use Rattle.cas_base.specs.declared.place.Place.{Place}
use Rattle.cas_own.specs.declared.fault.OwnCode.{OwnCode}
use Rattle.cas_own.specs.declared.fault.OwnCode.TheVariants.{O5, O8}
use Rattle.cas_own.specs.Flow.{Flow, on, fault, body_flow}
use Rattle.cas_own.specs.Locks.{Locks, lock_named, holds_of, set_of}
use Rattle.cas_syntax.specs.Tree.{FunTree, ItemTree, global, prototype, define}
use Rattle.cas_typed.specs.Modules.{decls_of}
use Rattle.cas_typed.specs.Resolved.{TypedFunTree, TypedModuleTree}

-- a fault of ownership: its code, its place, and the lock that is kept, by name
pub record OwnFaultTree : Type 0 where
  pub code : OwnCode
  pub place : Place
  pub lock : List ℕ

-- the name of what the item with this number declares
abbrev pub name_in : Option Decl → List ℕ
name_in None = []
name_in (Some d) = d.name

abbrev pub name_of : List Decl → (number : ℕ) → List ℕ
name_of decls g = name_in (slice_get decls g)

-- the fault of a walk, if it has one
abbrev pub fault_of : List Decl → Flow → Option OwnFaultTree
fault_of decls (on o) = None
fault_of decls (fault code p l) = Some (record { code = code; place = p; lock = name_of decls l })

-- the first of two faults
abbrev pub first : Option OwnFaultTree → Option OwnFaultTree → Option OwnFaultTree
first (Some f) other = Some f
first None other = other

-- a guard that is a lock, or else the fault of the global that names it
abbrev pub guard_fault : (name : List ℕ) → Place → (lock : Option ℕ) → Option OwnFaultTree
guard_fault name p (Some l) = None
guard_fault name p None = Some (record { code = O8; place = p; lock = name })

-- of a global: `shared` names a lock that is declared before
abbrev pub global_fault : (before : List Decl) → Form → Place → Option OwnFaultTree
global_fault before (Shared ty name) p = guard_fault name p (lock_named before name)
global_fault before _ p = None

-- the set of locks that a function's caller holds
abbrev pub held_set : List Decl → (number : ℕ) → Locks
held_set decls g = set_of (holds_of decls g)

-- of a function's body
abbrev pub function_fault : List Decl → FunTree → TypedFunTree → Option OwnFaultTree
function_fault decls f r = fault_of decls (body_flow decls (held_set decls r.item) f.closing r.body)

-- of items after these declarations in a module with these, with the resolved functions of those with
-- bodies; a body that isn't resolved, in no typed module, is a fault
abbrev pub items_fault : (decls before : List Decl) → List ItemTree → List TypedFunTree → Option OwnFaultTree
items_fault decls before [] rs = None
items_fault decls before (global d vs p ∷ rest) rs =
    first (global_fault before d.form p) (items_fault decls (before ++ d ∷ []) rest rs)
items_fault decls before (prototype d hs p ∷ rest) rs = items_fault decls (before ++ d ∷ []) rest rs
items_fault decls before (define f ∷ rest) (r ∷ rs) =
    first (function_fault decls f r) (items_fault decls (before ++ f.decl ∷ []) rest rs)
items_fault decls before (define f ∷ rest) [] = Some (record { code = O5; place = f.closing; lock = name_of decls 0 })

-- the first fault of a module, in order of text
abbrev pub own_fault : TypedModuleTree → Option OwnFaultTree
own_fault m = items_fault (decls_of m) [] m.module_tree.items m.functions

-- the module is checked
abbrev pub IsChecked : TypedModuleTree → Type 0
IsChecked m = own_fault m ≡ None

-- the module's first fault
abbrev pub HasOwnFault : TypedModuleTree → OwnFaultTree → Type 0
HasOwnFault m f = own_fault m ≡ Some f

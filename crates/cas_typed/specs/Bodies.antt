-- Which items a resolved module's functions are.
use Rattle.std.specs.Prelude.{◌≡◌, ℕ, List, [], ◌∷◌, length, map, take, Some, slice_get}
use Rattle.cas_base.specs.declared.decl.Decl.{Decl}
use Rattle.cas_syntax.specs.Tree.{FunTree, ItemTree, global, prototype, define}
use Rattle.cas_typed.specs.Counts.{parameter_types, local_types}
use Rattle.cas_typed.specs.Resolved.{TypedFunTree, TypedModuleTree}

-- the functions with bodies among items, in order of text
abbrev pub bodies_of : List ItemTree → List FunTree
bodies_of [] = []
bodies_of (global d vs p ∷ items) = bodies_of items
bodies_of (prototype d hs p ∷ items) = bodies_of items
bodies_of (define f ∷ items) = f ∷ bodies_of items

-- the function is resolved from this tree of an item: the item has its number, and its locals have the types of the
-- parameters, and then of the body's locals
pub record IsOf (items : List ItemTree) (f : FunTree) (it : TypedFunTree) : Type 0 where
  pub item : slice_get items it.item ≡ Some (define f)
  pub locals : map (λ v. v.ty) it.locals ≡ local_types f

-- the module has one function for each body, in order of text
pub record HasBodies (r : TypedModuleTree) : Type 0 where
  pub count : length r.functions ≡ length (bodies_of r.module_tree.items)
  pub each : (n : ℕ) (it : TypedFunTree) → slice_get r.functions n ≡ Some it →
      (f : FunTree) × (slice_get (bodies_of r.module_tree.items) n ≡ Some f) × IsOf r.module_tree.items f it

-- the function with this number is the one that the declaration defines, and its locals begin with the parameters
pub record IsDefined (r : TypedModuleTree) (number : ℕ) (d : Decl) : Type 0 where
  pub it : TypedFunTree
  pub tree : FunTree
  pub function : slice_get r.functions number ≡ Some it
  pub is_of : IsOf r.module_tree.items tree it
  pub decl : tree.decl ≡ d
  pub parameters : take (length (parameter_types d.form)) (map (λ v. v.ty) it.locals) ≡ parameter_types d.form

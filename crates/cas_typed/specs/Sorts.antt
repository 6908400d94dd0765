-- Well-sorted resolved trees: words where words are wanted, pointers to cells of a kind where those are wanted, and
-- only locals and items that exist. (Each value that is written has the type of its cell.)
use Rattle.std.specs.Prelude.{◌≡◌, ◌⊎◌, ⊤, ℕ, Bool, true, false, List, [], ◌∷◌, map, Option, Some, None, slice_get, All}
use Rattle.cas_base.specs.declared.decl.Decl.{Decl}
use Rattle.cas_base.specs.declared.decl.Form.{Form}
use Rattle.cas_base.specs.declared.decl.Form.TheVariants.{Lock, Shared, Function}
use Rattle.cas_base.specs.declared.kind.Kind.{Kind}
use Rattle.cas_base.specs.declared.kind.Kind.TheVariants.{I32}
use Rattle.cas_base.specs.declared.kind.Ty.{Ty}
use Rattle.cas_base.specs.declared.kind.Ty.TheVariants.{Int, Ptr, Array}
use Rattle.cas_typed.specs.declared.tree.Destination.{Destination}
use Rattle.cas_typed.specs.Modules.{return_type, decls_of}
use Rattle.cas_typed.specs.Resolved.{TypedExprTree, literal, null, local, global, element, place_of, behind, pointer_plus, plus_pointer, pointer_minus, pointer_difference, compare, unary, binary, narrow, and_also, or_else, choose, TypedTargetTree, to_local, to_global, to_element, to_behind, TypedStmtTree, skip, assign, call, block, if_, while_, do_, for_, break_, continue_, return_, lock, unlock, print, TypedStmtOption, absent, present, TypedStmtList, no_more, one_more, TypedFunTree, TypedModuleTree}
use Rattle.cas_typed.specs.Types.{variable_type, no_value, IsEquality, IsOrder}

-- the values of an expression: words, or pointers to cells of a kind
pub data Sort : Type 0 where
  word : Sort
  pointer : Kind → Sort

-- the local with this number has this type
abbrev pub IsLocal : List Ty → (number : ℕ) → Ty → Type 0
IsLocal locals n ty = slice_get locals n ≡ Some ty

-- the item with this number declares this
abbrev pub IsDeclared : List Decl → (number : ℕ) → Form → Type 0
IsDeclared decls g form = (d : Decl) × (slice_get decls g ≡ Some d) × (d.form ≡ form)

-- the item with this number declares a variable of this type
abbrev pub IsVariable : List Decl → (number : ℕ) → Ty → Type 0
IsVariable decls g ty = (form : Form) × IsDeclared decls g form × (variable_type form ≡ Some ty)

-- in a function with these locals and a module with these declarations the expression has values of this sort
abbrev pub HasSort : List Ty → List Decl → TypedExprTree → Sort → Type 0
HasSort vs ds (literal n) word = ⊤
HasSort vs ds null (pointer k) = ⊤
HasSort vs ds (local n) word = (k : Kind) × IsLocal vs n (Int k)
HasSort vs ds (local n) (pointer k) = IsLocal vs n (Ptr k)
HasSort vs ds (global g at) word = (k : Kind) × IsVariable ds g (Int k)
HasSort vs ds (element g at s a) word = (k : Kind) × (n : ℕ) × IsVariable ds g (Array k n) × HasSort vs ds a word
HasSort vs ds (place_of n) (pointer k) = IsLocal vs n (Int k) ⊎ ((len : ℕ) × IsLocal vs n (Array k len))
HasSort vs ds (behind k p) word = HasSort vs ds p (pointer k)
HasSort vs ds (pointer_plus s p e) (pointer k) = HasSort vs ds p (pointer k) × HasSort vs ds e word
HasSort vs ds (plus_pointer s e p) (pointer k) = HasSort vs ds e word × HasSort vs ds p (pointer k)
HasSort vs ds (pointer_minus s p e) (pointer k) = HasSort vs ds p (pointer k) × HasSort vs ds e word
HasSort vs ds (pointer_difference p q) word = (k : Kind) × HasSort vs ds p (pointer k) × HasSort vs ds q (pointer k)
HasSort vs ds (compare op p q) word = (IsEquality op ⊎ IsOrder op) × (k : Kind) × HasSort vs ds p (pointer k) ×
    HasSort vs ds q (pointer k)
HasSort vs ds (unary op a) word = HasSort vs ds a word
HasSort vs ds (binary op s a b) word = HasSort vs ds a word × HasSort vs ds b word
HasSort vs ds (narrow k a) word = HasSort vs ds a word
HasSort vs ds (and_also a b) word = HasSort vs ds a word × HasSort vs ds b word
HasSort vs ds (or_else a b) word = HasSort vs ds a word × HasSort vs ds b word
HasSort vs ds (choose c a b) sort = HasSort vs ds c word × HasSort vs ds a sort × HasSort vs ds b sort
HasSort vs ds _ _ = ⊥

-- the value is one of this type: a word that was narrowed to the kind, or a pointer of the kind
abbrev pub IsValue : List Ty → List Decl → Ty → TypedExprTree → Type 0
IsValue vs ds (Int k) (narrow j a) = (j ≡ k) × HasSort vs ds a word
IsValue vs ds (Ptr k) p = HasSort vs ds p (pointer k)
IsValue vs ds _ _ = ⊥

abbrev pub AreValues : List Ty → List Decl → List Ty → List TypedExprTree → Type 0
AreValues vs ds [] [] = ⊤
AreValues vs ds (ty ∷ tys) (a ∷ args) = IsValue vs ds ty a × AreValues vs ds tys args
AreValues vs ds _ _ = ⊥

-- the target is a cell of this type
abbrev pub IsCell : List Ty → List Decl → TypedTargetTree → Ty → Type 0
IsCell vs ds (to_local n) ty = IsLocal vs n ty
IsCell vs ds (to_global g at) (Int k) = (guard : List ℕ) × IsDeclared ds g (Shared (Int k) guard)
IsCell vs ds (to_element g at s a) (Int k) = (guard : List ℕ) × (n : ℕ) × IsDeclared ds g (Shared (Array k n) guard) ×
    HasSort vs ds a word
IsCell vs ds (to_behind j p) (Int k) = (j ≡ k) × HasSort vs ds p (pointer k)
IsCell vs ds _ _ = ⊥

-- the value that the function returns may be kept in this destination
abbrev pub MayKeep : List Ty → Option Destination → (ret : Ty) → Type 0
MayKeep vs None ret = ⊤
MayKeep vs (Some d) (Int j) = (k : Kind) × (d.ty ≡ Int k) × IsLocal vs d.local d.ty
MayKeep vs (Some d) (Ptr k) = (d.ty ≡ Ptr k) × IsLocal vs d.local d.ty
MayKeep vs (Some d) _ = ⊥

-- a function of this type may return this
abbrev pub MayReturn : List Ty → List Decl → (ret : Ty) → Option TypedExprTree → Type 0
MayReturn vs ds ret None = no_value ret ≡ None
MayReturn vs ds ret (Some a) = IsValue vs ds ret a

abbrev pub IsTest : List Ty → List Decl → Option TypedExprTree → Type 0
IsTest vs ds None = ⊤
IsTest vs ds (Some c) = HasSort vs ds c word

abbrev mutual
  -- in a function with these locals that returns so, and a module with these declarations, the statement, in a loop
  -- or not, is well sorted, and leaves no loop where none is
  pub IsSorted : List Ty → List Decl → (ret : Ty) → (in_loop : Bool) → TypedStmtTree → Type 0
  IsSorted vs ds ret l (skip p) = ⊤
  IsSorted vs ds ret l (assign p target a) = (ty : Ty) × IsCell vs ds target ty × IsValue vs ds ty a
  IsSorted vs ds ret l (call p kept g at args) =
      (gives : Ty) × (tys : List Ty) × (holds : List (List ℕ)) × IsDeclared ds g (Function gives tys holds) ×
      MayKeep vs kept gives × AreValues vs ds tys args
  IsSorted vs ds ret l (block p bs) = AreSorted vs ds ret l bs
  IsSorted vs ds ret l (if_ p c a o) = HasSort vs ds c word × IsSorted vs ds ret l a × IsSortedPart vs ds ret l o
  IsSorted vs ds ret l (while_ p c a) = HasSort vs ds c word × IsSorted vs ds ret true a
  IsSorted vs ds ret l (do_ p a c) = IsSorted vs ds ret true a × HasSort vs ds c word
  IsSorted vs ds ret l (for_ p i c u a) = IsSortedPart vs ds ret l i × IsTest vs ds c × IsSortedPart vs ds ret l u ×
      IsSorted vs ds ret true a
  IsSorted vs ds ret l (break_ p) = l ≡ true
  IsSorted vs ds ret l (continue_ p) = l ≡ true
  IsSorted vs ds ret l (return_ p a) = MayReturn vs ds ret a
  IsSorted vs ds ret l (lock p g) = IsDeclared ds g Lock
  IsSorted vs ds ret l (unlock p g) = IsDeclared ds g Lock
  IsSorted vs ds ret l (print p a) = IsValue vs ds (Int I32) a

  pub IsSortedPart : List Ty → List Decl → (ret : Ty) → (in_loop : Bool) → TypedStmtOption → Type 0
  IsSortedPart vs ds ret l absent = ⊤
  IsSortedPart vs ds ret l (present a) = IsSorted vs ds ret l a

  pub AreSorted : List Ty → List Decl → (ret : Ty) → (in_loop : Bool) → TypedStmtList → Type 0
  AreSorted vs ds ret l no_more = ⊤
  AreSorted vs ds ret l (one_more a bs) = IsSorted vs ds ret l a × AreSorted vs ds ret l bs

-- in a module with these declarations the function is well sorted
abbrev pub IsSortedFunction : List Decl → TypedFunTree → Type 0
IsSortedFunction ds f = (d : Decl) × (slice_get ds f.item ≡ Some d) ×
    AreSorted (map (λ v. v.ty) f.locals) ds (return_type d.form) false f.body

-- each function of the module is well sorted
abbrev pub IsSortedModule : TypedModuleTree → Type 0
IsSortedModule r = All (IsSortedFunction (decls_of r)) r.functions

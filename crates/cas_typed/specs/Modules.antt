-- Items and modules: what is declared, and when a module is typed.
use Rattle.std.specs.Prelude.{◌≡◌, ◌≤◌, ℕ, ◌+◌, ◌-◌, Bool, true, false, ◌&&◌, nat_lt, List, [], ◌∷◌, ◌++◌, length, map, replicate, if◌then◌else◌, Option, Some, None}
use Rattle.std.specs.List.{list_any, list_all}
use Rattle.std.specs.Str.{bytes_eq}
use Rattle.cas_base.specs.Decl.{agrees, is_named, definitions}
use Rattle.cas_base.specs.Ty.{words_of_ty}
use Rattle.cas_base.specs.declared.decl.Decl.{Decl}
use Rattle.cas_base.specs.declared.decl.Form.{Form}
use Rattle.cas_base.specs.declared.decl.Form.TheVariants.{Lock, Function}
use Rattle.cas_base.specs.declared.kind.Ty.{Ty}
use Rattle.cas_base.specs.declared.kind.Ty.TheVariants.{Void}
use Rattle.cas_base.specs.declared.place.Place.{Place}
use Rattle.cas_syntax.specs.declared.tree.Ident.{Ident}
use Rattle.cas_syntax.specs.declared.tree.Item.{Item}
use Rattle.cas_syntax.specs.Tree.{FunTree, ItemTree, global, prototype, define, ModuleTree, item_tree}
use Rattle.cas_typed.specs.declared.rows.Local.{Local}
use Rattle.cas_typed.specs.Counts.{most_parameters, most_cells, most_nodes, most_functions, most_words, parameter_types, local_types, cells_of, nodes_of, function_count, word_count}
use Rattle.cas_typed.specs.Resolved.{TypedStmtList, TypedFunTree, TypedModuleTree, list_makes_pointer}
use Rattle.cas_typed.specs.Scopes.{Meaning, item, item_named, Scope, body_scope}
use Rattle.cas_typed.specs.Types.{variable_type}
use Rattle.cas_typed.specs.Typing.{AreStmts}

-- what an item declares, at its place
abbrev pub decl_of : ItemTree → Decl
decl_of (global d vs p) = d
decl_of (prototype d hs p) = d
decl_of (define f) = f.decl

-- the declarations of a module, in order of text
abbrev pub decls_of : TypedModuleTree → List Decl
decls_of m = map decl_of m.module_tree.items

-- the declarations of items of the code
abbrev pub decls_of_items : List Item → List Decl
decls_of_items items = map (λ a. decl_of (item_tree a)) items

abbrev pub place_of : ItemTree → Place
place_of (global d vs p) = p
place_of (prototype d hs p) = p
place_of (define f) = f.place

-- the initial values that its text gives
abbrev pub values_of : ItemTree → List ℕ
values_of (global d vs p) = vs
values_of _ = []

-- the names of a function's parameters, if it has a body
abbrev pub parameter_names : ItemTree → List Ident
parameter_names (define f) = f.params
parameter_names _ = []

-- names at places; a name without a place of its own gets the last place
abbrev pub placed : Place → List (List ℕ) → List Place → List Ident
placed last [] ps = []
placed last (name ∷ names) [] = record { name = name; place = last } ∷ placed last names []
placed last (name ∷ names) (p ∷ ps) = record { name = name; place = p } ∷ placed last names ps

abbrev pub held_by : Form → List (List ℕ)
held_by (Function ret params holds) = holds
held_by _ = []

abbrev pub held_places : ItemTree → List Place
held_places (global d vs p) = []
held_places (prototype d hs p) = hs
held_places (define f) = f.held

-- the names in its `holds`
abbrev pub held_names : ItemTree → List Ident
held_names a = placed (place_of a) (held_by (decl_of a).form) (held_places a)

-- the first of these names that isn't declared
abbrev pub undeclared_in : List Decl → List Ident → Option Ident
undeclared_in decls [] = None
undeclared_in decls (x ∷ xs) = if list_any (is_named x.name) decls then undeclared_in decls xs else Some x

-- the first of these names that is among the earlier ones or the seen ones
abbrev pub repeated : (seen : List (List ℕ)) → List Ident → Option Ident
repeated seen [] = None
repeated seen (x ∷ xs) = if list_any (bytes_eq x.name) seen then Some x else repeated (x.name ∷ seen) xs

-- whether a name means a lock
abbrev pub means_lock : Meaning → Bool
means_lock (item g Lock) = true
means_lock _ = false

-- whether these names are locks
abbrev pub are_locks : List Decl → List Ident → Bool
are_locks decls xs = list_all (λ x. means_lock (item_named 0 decls x.name)) xs

-- whether a definition's name is defined before
abbrev pub is_defined_again : List Decl → Decl → Bool
is_defined_again decls d = d.defined && list_any (is_named d.name) (definitions decls)

-- whether what is declared is what the name means, if anything
abbrev pub agrees_with : Meaning → Form → Bool
agrees_with (item g form) other = agrees form other
agrees_with _ other = true

-- the elements of a global variable
abbrev pub elements_of : Option Ty → ℕ
elements_of (Some ty) = words_of_ty ty
elements_of None = 0

-- whether a global variable has an element
abbrev pub has_element : Option Ty → Bool
has_element (Some ty) = nat_lt 0 (words_of_ty ty)
has_element None = true

-- what a function returns
abbrev pub return_type : Form → Ty
return_type (Function ret params holds) = ret
return_type _ = Void

-- The item is typed after these declarations.
pub record IsItem (before : List Decl) (a : ItemTree) : Type 0 where
  pub locks : are_locks before (held_names a) ≡ true
  pub held_once : repeated [] (held_names a) ≡ None
  pub parameters_once : repeated [] (parameter_names a) ≡ None
  pub defined_once : is_defined_again before (decl_of a) ≡ false
  pub agrees : agrees_with (item_named 0 before (decl_of a).name) (decl_of a).form ≡ true
  pub not_empty : has_element (variable_type (decl_of a).form) ≡ true
  pub values : length (values_of a) ≤ elements_of (variable_type (decl_of a).form)
  pub parameters : length (parameter_types (decl_of a).form) ≤ most_parameters
  pub functions : function_count (before ++ decl_of a ∷ []) ≤ most_functions
  pub words : word_count (before ++ decl_of a ∷ []) ≤ most_words

-- locals of these types in a function with this body, counted from this number on, after this many cells
abbrev pub locals_in : TypedStmtList → (number first : ℕ) → List Ty → List Local
locals_in body n first [] = []
locals_in body n first (ty ∷ tys) =
    record { ty = ty; first = first; addressed = list_makes_pointer n body } ∷ locals_in body (n + 1)
    (first + words_of_ty ty) tys

-- the scope at the beginning of a function's body, which has the function's own name too
abbrev pub scope_in : List Decl → FunTree → Scope
scope_in before f = body_scope (before ++ f.decl ∷ []) f.params (parameter_types f.decl.form)

-- The function with a body is resolved to this after these declarations; its item's number is their count.
pub record IsFunction (before : List Decl) (f : FunTree) (r : TypedFunTree) : Type 0 where
  pub item : r.item ≡ length before
  pub locals : r.locals ≡ locals_in r.body 0 0 (local_types f)
  pub body : AreStmts (return_type f.decl.form) false (scope_in before f) f.body r.body
  pub cells : cells_of f ≤ most_cells
  pub nodes : nodes_of f ≤ most_nodes

-- The items are typed after these declarations, and their functions with bodies are resolved to these.
pub data AreItems : (before : List Decl) → List ItemTree → List TypedFunTree → Type 0 where
  no_item : (before : List Decl) → AreItems before [] []
  a_global : (before : List Decl) (d : Decl) (vs : List ℕ) (p : Place) (rest : List ItemTree) (rs : List TypedFunTree) →
      IsItem before (global d vs p) → AreItems (before ++ d ∷ []) rest rs → AreItems before (global d vs p ∷ rest) rs
  a_prototype : (before : List Decl) (d : Decl) (hs : List Place) (p : Place) (rest : List ItemTree)
      (rs : List TypedFunTree) →
      IsItem before (prototype d hs p) → AreItems (before ++ d ∷ []) rest rs →
      AreItems before (prototype d hs p ∷ rest) rs
  a_function : (before : List Decl) (f : FunTree) (rest : List ItemTree) (r : TypedFunTree) (rs : List TypedFunTree) →
      IsItem before (define f) → IsFunction before f r → AreItems (before ++ f.decl ∷ []) rest rs →
      AreItems before (define f ∷ rest) (r ∷ rs)

-- the values of a variable that is defined, filled up with zeros to its elements
abbrev pub filled : Decl → List ℕ → List ℕ
filled d vs = if d.defined then vs ++ replicate (elements_of (variable_type d.form) - length vs) 0 else vs

abbrev pub filled_item : ItemTree → ItemTree
filled_item (global d vs p) = global d (filled d vs) p
filled_item (prototype d hs p) = prototype d hs p
filled_item (define f) = define f

-- the module with the values of its variables filled up
abbrev pub filled_module : ModuleTree → ModuleTree
filled_module m = record { items = map filled_item m.items }

-- The module is typed, and resolved to this.
pub record IsTyped (m : ModuleTree) (r : TypedModuleTree) : Type 0 where
  pub module_tree : r.module_tree ≡ filled_module m
  pub functions : AreItems [] m.items r.functions

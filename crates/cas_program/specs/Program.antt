-- Programs: what typed modules that settle mean together. All modules of a program share one space of names.
use Rattle.std.specs.Prelude.{ℕ, Bool, true, false, if◌then◌else◌, List, [], ◌∷◌, map, replicate, Option, Some, None, slice_get, All}
use Rattle.std.specs.List.{find, flat_map, cons_option}
use Rattle.std.specs.Option.{option_map}
use Rattle.std.specs.Str.{bytes_eq}
use Rattle.cas_base.specs.Decl.{definitions}
use Rattle.cas_base.specs.Ty.{words_of_ty}
use Rattle.cas_base.specs.declared.decl.Decl.{Decl}
use Rattle.cas_base.specs.declared.decl.Form.{Form}
use Rattle.cas_base.specs.declared.decl.Form.TheVariants.{Lock, Shared, Table, Function as AFunction}
use Rattle.cas_base.specs.declared.kind.Kind.{Kind}
use Rattle.cas_base.specs.declared.kind.Ty.TheVariants.{Void}
use Rattle.cas_settle.specs.Settle.{IsSettled, all_decls, cells_of, place_of as place_named}
use Rattle.cas_settle.specs.declared.link.CellRow.{CellRow}
use Rattle.cas_step.specs.Env.{FunctionAt, Function, Entity, function, shared, table, lock, Env}
use Rattle.cas_step.specs.Well_formed.{kind_of}
use Rattle.cas_syntax.specs.Tree.{FunTree, ItemTree, global, prototype, define}
use Rattle.cas_typed.specs.Formed.{IsFormed}
use Rattle.cas_typed.specs.Modules.{IsTyped, return_type, decls_of}
use Rattle.cas_typed.specs.Resolved.{TypedFunTree, TypedModuleTree, no_more}

-- the declarations of each of these modules
abbrev pub units_of : List TypedModuleTree → List (List Decl)
units_of modules = map decls_of modules

-- functions

-- the function with a body that an item is, if it is one
abbrev pub body_item : Option ItemTree → Option FunTree
body_item (Some (define f)) = Some f
body_item _ = None

-- a resolved function with its item's return type and closing brace; without an item it returns nothing, and ends at
-- line 1, column 1
abbrev pub function_with : TypedFunTree → Option FunTree → Function
function_with it (Some f) = record {
  ret = return_type f.decl.form;
  locals = map
      (λ v. v.ty) it.locals;
  body = it.body;
  closing = f.closing;
}
function_with it None = record {
  ret = Void;
  locals = map
      (λ v. v.ty) it.locals;
  body = it.body;
  closing = record { line = 1; col = 1 };
}

-- a function that doesn't exist does nothing
abbrev pub no_function : Function
no_function = record { ret = Void; locals = []; body = no_more; closing = record { line = 1; col = 1 } }

abbrev pub function_of : List ItemTree → Option TypedFunTree → Function
function_of items None = no_function
function_of items (Some it) = function_with it (body_item (slice_get items it.item))

abbrev pub function_in : (place : ℕ) → Option TypedModuleTree → Function
function_in n None = no_function
function_in n (Some m) = function_of m.module_tree.items (slice_get m.functions n)

-- what items stand for

-- what a global or lock of a program is
abbrev pub cell_entity : CellRow → (is_lock is_table : Bool) → Entity
cell_entity row true t = lock row.first
cell_entity row false true = table row.first row.len
cell_entity row false false = shared row.first row.len row.guard

abbrev pub entity_of_cell : CellRow → Entity
entity_of_cell row = cell_entity row row.lock row.constant

-- the global or lock with this name
abbrev pub cell_named : List (List Decl) → (name : List ℕ) → Option CellRow
cell_named units name = find (λ row. bytes_eq name row.name) (cells_of units)

abbrev pub function_entity : ℕ × ℕ → Entity
function_entity p = function (record { unit = p.0; place = p.1 })

-- what a declaration stands for: the function, global or lock with its name
abbrev pub stands_for : List (List Decl) → (name : List ℕ) → Form → Option Entity
stands_for units name (AFunction ret params holds) = option_map function_entity (place_named units name)
stands_for units name _ = option_map entity_of_cell (cell_named units name)

abbrev pub declared_entity : List (List Decl) → Option Decl → Option Entity
declared_entity units None = None
declared_entity units (Some d) = stands_for units d.name d.form

abbrev pub item_entity : List (List Decl) → (item : ℕ) → Option (List Decl) → Option Entity
item_entity units g None = None
item_entity units g (Some decls) = declared_entity units (slice_get decls g)

-- words

-- the kind of each word of a definition; a lock's word has none, and a function has no word
abbrev pub kinds_of_form : Form → List (Option Kind)
kinds_of_form Lock = None ∷ []
kinds_of_form (Shared ty guard) = replicate (words_of_ty ty) (kind_of ty)
kinds_of_form (Table ty) = replicate (words_of_ty ty) (kind_of ty)
kinds_of_form (AFunction ret params holds) = []

-- the initial words of an item's definition: its values, and 1 for a lock
abbrev pub first_words : Form → (values : List ℕ) → List ℕ
first_words Lock vs = 1 ∷ []
first_words _ vs = vs

abbrev pub item_words : ItemTree → List ℕ
item_words (global d vs p) = if d.defined then first_words d.form vs else []
item_words (prototype d hs p) = []
item_words (define f) = []

-- the initial words of a program, in the order of modules and of their definitions
abbrev pub initial_words : List TypedModuleTree → List ℕ
initial_words modules = flat_map (λ m. flat_map item_words m.module_tree.items) modules

-- programs

-- the environment of a program
abbrev pub env_of : List TypedModuleTree → Env
env_of modules = record {
  function = λ f. function_in f.place (slice_get modules f.unit);
  entity = λ n g. item_entity (units_of modules) g (slice_get (units_of modules) n);
  kinds = flat_map (λ d. kinds_of_form d.form) (definitions (all_decls (units_of modules)));
}

-- the functions at which threads begin, by their names
abbrev pub entries_of : List TypedModuleTree → (names : List (List ℕ)) → List FunctionAt
entries_of modules [] = []
entries_of modules (name ∷ names) = cons_option
    (option_map (λ (p : ℕ × ℕ). record { unit = p.0; place = p.1 }) (place_named (units_of modules) name))
    (entries_of modules names)

-- These modules are a program with these entries: each is typed, and formed like a module that is read from a text,
-- and they settle.
pub record IsProgram (modules : List TypedModuleTree) (entries : List (List ℕ)) : Type 0 where
  pub typed : All (λ m. IsTyped m.module_tree m) modules
  pub formed : All (λ m. IsFormed m.module_tree) modules
  pub settled : IsSettled (units_of modules) entries

-- What names stand for in the code: a table of globals and locks, and a table of functions.
use Rattle.std.specs.Prelude.{ℕ, ◌^◌, ◌<◌, List, Option, length, map}
use Rattle.std.specs.List.{AllByRecursion}
use Rattle.std.specs.Borrow.{Bor}
use Rattle.std.specs.Map.{lookup}
use Rattle.std.specs.Option.{option_map}
use Rattle.std.specs.Str.{bytes_eq}
use Rattle.cas_base.specs.Decl.{functions_of}
use Rattle.cas_base.specs.declared.decl.Decl.{Decl}
use Rattle.cas_base.specs.declared.decl.Form.{Form}
use Rattle.cas_base.specs.declared.decl.Form.TheVariants.{Function}
use Rattle.cas_typed.specs.Modules.{decls_of_items}
use Rattle.cas_typed.specs.declared.typed.Typed.{Typed}
use Rattle.cas_step.specs.Env as env
use Rattle.cas_memory.specs.Entities.{entity_of}
use Rattle.cas_memory.specs.declared.entity.Entity.{Entity}

-- the declarations of a module of the code
abbrev pub decls_in : Typed → List Decl
decls_in typed = decls_of_items typed.filled.items

abbrev pub units_in : List Typed → List (List Decl)
units_in ts = map decls_in ts

-- what a table has for a name
abbrev pub named : List (Bor (List ℕ) × Entity) → (name : List ℕ) → Option env.Entity
named entries name = option_map entity_of (lookup (λ key. bytes_eq name key.now) entries)

-- what two tables have for a declaration: one of functions, and one of globals and locks
abbrev pub meant : (functions cells : List (Bor (List ℕ) × Entity)) → (name : List ℕ) → Form → Option env.Entity
meant functions cells name (Function ret params holds) = named functions name
meant functions cells name _ = named cells name

abbrev pub meant_by : (functions cells : List (Bor (List ℕ) × Entity)) → Decl → Option env.Entity
meant_by functions cells d = meant functions cells d.name d.form

-- each unit defines few functions
abbrev pub HaveFewFunctions : List (List Decl) → Type 0
HaveFewFunctions units = AllByRecursion (λ unit. length (functions_of unit) < 2 ^ 32) units

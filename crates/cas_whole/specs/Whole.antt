-- The program that the parts of a program of the code stand for.
use Rattle.std.specs.Prelude.{◌≡◌, ⊤, ℕ, ◌^◌, ◌<◌, List, [], ◌∷◌, length, map, Option, Some, None, slice_get}
use Rattle.cas_settle.specs.Settle.{cells_of}
use Rattle.cas_settle.specs.declared.link.CellRow.{CellRow}
use Rattle.cas_typed.specs.Resolved.{TypedModuleTree}
use Rattle.cas_typed.specs.Typed_as.{IsTypedAs}
use Rattle.cas_typed.specs.declared.typed.Typed.{Typed}
use Rattle.cas_step.specs.Env as env
use Rattle.cas_memory.specs.Entities.{entity_if}
use Rattle.cas_memory.specs.declared.entity.Entity.{Entity}
use Rattle.cas_program.specs.Program.{IsProgram, units_of, env_of, entries_of}

-- the modules of the code are these, one by one
abbrev pub AreTyped : List Typed → List TypedModuleTree → Type 0
AreTyped [] [] = ⊤
AreTyped (t ∷ ts) (m ∷ ms) = IsTypedAs t m × AreTyped ts ms
AreTyped _ _ = ⊥

-- a function of the code: its module's number, and its place among the functions of the module
abbrev pub function_at : ℕ × ℕ → env.FunctionAt
function_at p = record { unit = p.0; place = p.1 }

-- what an item of this module stands for
abbrev pub entity_in : (item : ℕ) → Option (List (Option Entity)) → Option env.Entity
entity_in g None = None
entity_in g (Some row) = entity_if (slice_get row g)

-- what an item of the module with this number stands for
abbrev pub entity_at : List (List (Option Entity)) → (unit item : ℕ) → Option env.Entity
entity_at items n g = entity_in g (slice_get items n)

-- These modules of the code, with these cells, entries and entities of items, are the program of these resolved
-- modules with these entries.
pub record AreProgramOf (ts : List Typed) (cells : List CellRow) (entries : List (ℕ × ℕ))
    (items : List (List (Option Entity))) (modules : List TypedModuleTree) (names : List (List ℕ)) : Type 0 where
  pub typed : AreTyped ts modules
  pub program : IsProgram modules names
  pub few_modules : length modules < 2 ^ 32
  pub few_entries : length names < 2 ^ 32
  pub cells_are : cells ≡ cells_of (units_of modules)
  pub entries_are : map function_at entries ≡ entries_of modules names
  -- a row for each module, and in it one for each item
  pub rows : map length items ≡ map length (units_of modules)
  pub entities : (unit item : ℕ) → entity_at items unit item ≡ (env_of modules).entity unit item

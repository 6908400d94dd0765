-- Definitions with their places in a program.
use Rattle.std.specs.Prelude.{◌≡◌, ⊤, ℕ, ◌+◌, ◌-◌, ◌^◌, min, Bool, true, false, if◌then◌else◌, List, [], ◌∷◌, ◌++◌, Option, Some, None, map}
use Rattle.std.specs.Borrow.{Bor}
use Rattle.std.specs.List.{filter_map, find}
use Rattle.std.specs.Option.{option_map, option_and_then}
use Rattle.cas_base.specs.declared.decl.Form.{Form}
use Rattle.cas_base.specs.declared.decl.Decl.{Decl}
use Rattle.cas_settle.specs.declared.definitions.Definition.{Definition}
use Rattle.cas_settle.specs.declared.link.CellRow.{CellRow}
use Rattle.cas_base.specs.Decl.{is_lock, is_function, words_of_form, is_named, definitions}
use Rattle.cas_settle.specs.Settle.{names_of, words_of, cell_of}

-- a definition, its unit, how many functions its unit defines before it, and how many words stand before it
pub record Located : Type 0 where
  pub decl : Decl
  pub unit : ℕ
  pub place : ℕ
  pub word : ℕ

-- what a definition of the code stands for
abbrev pub located : Definition → Located
located definition =
    record { decl = definition.decl.now; unit = definition.unit; place = definition.place; word = definition.word }

-- the definitions themselves
abbrev pub decls_in : List Located → List Decl
decls_in found = map (λ item. item.decl) found

-- their names
abbrev pub names_in : List Located → List (List ℕ)
names_in found = names_of (decls_in found)

-- the definition of a name with its places
abbrev pub location_of : List Located → List ℕ → Option Located
location_of found name = find (λ item. is_named name item.decl) found

-- each definition is kept under its name
abbrev pub IsKeyed : List (Bor (List ℕ) × Definition) → Type 0
IsKeyed [] = ⊤
IsKeyed (entry ∷ entries) = (entry.0.now ≡ entry.1.decl.now.name) × IsKeyed entries

-- the definitions of a unit's declarations, which begin after this many functions of the unit and words of the program
abbrev pub located_in : (unit place word : ℕ) → List Decl → List Located
located_in unit place word [] = []
located_in unit place word (decl ∷ decls) =
    if decl.defined
    then record { decl = decl; unit = unit; place = place; word = min word (2 ^ 32 - 1) }
    ∷ located_in unit (if is_function decl.form then place + 1 else place) (word + words_of_form decl.form) decls
    else located_in unit place word decls

-- the definitions of these units, which are counted from `unit` on and begin after this many words
abbrev pub located_from : (unit word : ℕ) → List (List Decl) → List Located
located_from unit word [] = []
located_from unit word (decls ∷ units) =
    located_in unit 0 word decls ++ located_from (unit + 1) (word + words_of (definitions decls)) units

-- the word of the lock of this name
abbrev pub lock_word_in : List Located → List ℕ → Option ℕ
lock_word_in found name =
    option_and_then (λ item. if is_lock item.decl.form then Some item.word else None) (location_of found name)

-- the unit and the place of this name
abbrev pub place_in : List Located → List ℕ → Option (ℕ × ℕ)
place_in found name = option_map (λ item. (item.unit, item.place)) (location_of found name)

-- the cells of these definitions
abbrev pub cells_in : List Located → List CellRow
cells_in found =
    filter_map (λ item. cell_of (lock_word_in found) item.word item.decl.name item.decl.form) found

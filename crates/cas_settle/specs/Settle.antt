-- Which units settle with their entries, what cells and entries they then have, and which refusal comes first.
-- All names of a program are of one space.
use Rattle.std.specs.Prelude.{◌≡◌, ℕ, ◌+◌, ◌-◌, ◌^◌, ◌≤◌, ◌&&◌, min, Bool, true, false, IsTrue, nat_lt, if◌then◌else◌, List, [], ◌∷◌, ◌++◌, Option, Some, None, IsSomeAnd, map, filter, position, sum_by, count_by, All}
use Rattle.std.specs.List.{find, list_any, flat_map, cons_option, IsDistinct}
use Rattle.std.specs.Option.{option_map, option_or}
use Rattle.std.specs.Str.{bytes_eq}
use Rattle.cas_base.specs.declared.decl.Form.{Form}
use Rattle.cas_base.specs.declared.decl.Form.TheVariants.{Lock, Shared, Table, Function}
use Rattle.cas_base.specs.declared.decl.Decl.{Decl}
use Rattle.cas_settle.specs.declared.link.CellRow.{CellRow}
use Rattle.cas_settle.specs.declared.link.Count.{Count}
use Rattle.cas_settle.specs.declared.link.Count.TheVariants.{Words, Locks}
use Rattle.cas_settle.specs.declared.link.LinkFault.{LinkFault}
use Rattle.cas_settle.specs.declared.link.LinkFault.TheVariants.{NotDefined, Twice, Differ, Entry, Limit}
use Rattle.cas_settle.specs.declared.link.TheConstants.{WORD_LIMIT, LOCK_LIMIT}
use Rattle.cas_base.specs.Ty.{words_of_ty}
use Rattle.cas_base.specs.Decl.{is_lock, is_table, is_function, words_of_form, agrees, is_entry, is_named, definitions, references, functions_of, definition_of}

-- the declarations of all units, in the order of units and declarations
abbrev pub all_decls : List (List Decl) → List Decl
all_decls units = flat_map (λ unit. unit) units

-- their names
abbrev pub names_of : List Decl → List (List ℕ)
names_of decls = map (λ decl. decl.name) decls

-- the words of these definitions
abbrev pub words_of : List Decl → ℕ
words_of defined = sum_by (λ decl. words_of_form decl.form) defined

-- the locks among these definitions
abbrev pub locks_of : List Decl → ℕ
locks_of defined = count_by (λ decl. is_lock decl.form) defined

-- the units settle with these entries
pub record IsSettled (units : List (List Decl)) (entries : List (List ℕ)) : Type 0 where
  -- no name is defined twice
  pub distinct : IsDistinct bytes_eq (names_of (definitions (all_decls units)))
  -- each declaration that isn't a definition agrees with the definition of its name
  pub agreed : All (λ decl. IsSomeAnd (definition_of (definitions (all_decls units)) decl.name)
      (λ defined. IsTrue (agrees defined.form decl.form))) (references (all_decls units))
  -- each entry is the name of a function `void f(int)` that holds no lock
  pub entered : All (λ name. IsSomeAnd (definition_of (definitions (all_decls units)) name)
      (λ defined. IsTrue (is_entry defined.form))) entries
  pub words : words_of (definitions (all_decls units)) ≤ WORD_LIMIT
  pub locks : locks_of (definitions (all_decls units)) ≤ LOCK_LIMIT

-- the first name of a list that is a repetition: of a name before it, there or among the names `before`
abbrev pub first_repeated : (before names : List (List ℕ)) → Option (List ℕ)
first_repeated before [] = None
first_repeated before (name ∷ names) =
    if list_any (bytes_eq name) before then Some name else first_repeated (before ++ name ∷ []) names

-- the fault of the first item that has one
abbrev pub first_fault : {X : Type 0} → (X → Option LinkFault) → List X → Option LinkFault
first_fault fault_of [] = None
first_fault fault_of (x ∷ xs) = option_or (fault_of x) (first_fault fault_of xs)

-- the fault of a declaration that isn't a definition, where this is the definition of its name, if there is one
abbrev pub reference_fault : Decl → Option Decl → Option LinkFault
reference_fault decl None = Some (NotDefined decl.name)
reference_fault decl (Some defined) =
    if agrees defined.form decl.form then None else Some (Differ decl.name defined decl)

-- the fault of an entry, where this is the definition of its name, if there is one
abbrev pub entry_fault : List ℕ → Option Decl → Option LinkFault
entry_fault name None = Some (NotDefined name)
entry_fault name (Some defined) = if is_entry defined.form then None else Some (Entry name defined)

-- more are counted than the limit; a count past the greatest word of 64 bits is given as that word
abbrev pub limit_fault : (what : Count) (limit counted : ℕ) → Option LinkFault
limit_fault what limit counted = if nat_lt limit counted then Some (Limit what (min counted (2 ^ 64 - 1))) else None

-- the first name that is defined twice
abbrev pub twice_fault : (defined : List Decl) → Option LinkFault
twice_fault defined = option_map Twice (first_repeated [] (names_of defined))

-- the first of these declarations that has no definition, or differs from it
abbrev pub references_fault : (defined references : List Decl) → Option LinkFault
references_fault defined decls = first_fault (λ decl. reference_fault decl (definition_of defined decl.name)) decls

-- the first entry that has no definition, or that no thread may enter
abbrev pub entries_fault : (defined : List Decl) → (entries : List (List ℕ)) → Option LinkFault
entries_fault defined entries = first_fault (λ name. entry_fault name (definition_of defined name)) entries

-- too many words, and then too many locks
abbrev pub limits_fault : (defined : List Decl) → Option LinkFault
limits_fault defined = option_or (limit_fault Words WORD_LIMIT (words_of defined))
    (limit_fault Locks LOCK_LIMIT (locks_of defined))

-- the first refusal: of the definitions, then of the other declarations, then of the entries, then by the limits
abbrev pub first_refusal : (units : List (List Decl)) (entries : List (List ℕ)) → Option LinkFault
first_refusal units entries =
    let defined = definitions (all_decls units) in
    option_or (twice_fault defined)
    (option_or (references_fault defined (references (all_decls units)))
    (option_or (entries_fault defined entries)
    (limits_fault defined)))

-- the word of the lock of this name, where the first of these definitions begins at the word `first`
abbrev pub lock_word : (first : ℕ) → List Decl → List ℕ → Option ℕ
lock_word first [] name = None
lock_word first (decl ∷ decls) name =
    if is_lock decl.form && is_named name decl then Some first else lock_word (first + words_of_form decl.form)
    decls name

-- the cell of a definition that begins at the word `first`, where `word_of` gives the words of locks; a function has
-- none
abbrev pub cell_of : (word_of : List ℕ → Option ℕ) (first : ℕ) → List ℕ → Form → Option CellRow
cell_of word_of first name Lock =
    Some (record { name = name; first = first; len = 1; guard = None; constant = false; lock = true })
cell_of word_of first name (Shared ty lock) =
    Some (record {
      name = name;
      first = first;
      len = words_of_ty ty;
      guard = word_of lock;
      constant = false;
      lock =
          false;
    })
cell_of word_of first name (Table ty) =
    Some (record { name = name; first = first; len = words_of_ty ty; guard = None; constant = true; lock = false })
cell_of word_of first name (Function ret params holds) = None

-- the cells of these definitions, one after another, from the word `first` on
abbrev pub cells_from : (word_of : List ℕ → Option ℕ) (first : ℕ) → List Decl → List CellRow
cells_from word_of first [] = []
cells_from word_of first (decl ∷ decls) =
    cons_option (cell_of word_of first decl.name decl.form) (cells_from word_of (first + words_of_form decl.form) decls)

-- the cells of the units
abbrev pub cells_of : List (List Decl) → List CellRow
cells_of units =
    let defined = definitions (all_decls units) in cells_from (lock_word 0 defined) 0 defined

-- the unit, counted from `unit` on, that defines the function of this name, and its place among that unit's functions
abbrev pub place_from : (unit : ℕ) → List (List Decl) → List ℕ → Option (ℕ × ℕ)
place_from unit [] name = None
place_from unit (decls ∷ units) name =
    option_or (option_map (λ place. (unit, place)) (position (is_named name) (functions_of decls)))
    (place_from (unit + 1) units name)

-- the unit that defines the function of this name, and its place among that unit's functions
abbrev pub place_of : List (List Decl) → List ℕ → Option (ℕ × ℕ)
place_of units name = place_from 0 units name

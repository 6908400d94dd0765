-- Refinement of units, of functions and of threads, in any two languages of the compiler.
use Rattle.std.specs.Prelude.{◌≡◌, ℕ, ◌+◌, ◌*◌, ◌^◌, ◌<◌, ◌≤◌, Bool, true, false, ◌&&◌, if◌then◌else◌, List, [], ◌∷◌}
use Rattle.std.specs.Prelude.{◌++◌, length, map, Option, Some, None, slice_get, ◌⊎◌}
use Rattle.cas_base.specs.declared.kind.Kind.{Kind}
use Rattle.cas_base.specs.declared.kind.Kind.TheVariants.{I32, U32}
use Rattle.cas_base.specs.declared.kind.Ty.{Ty}
use Rattle.cas_base.specs.declared.kind.Ty.TheVariants.{Void, Int, Array}
use Rattle.cas_base.specs.declared.decl.Decl.{Decl}
use Rattle.cas_base.specs.declared.decl.Form.{Form}
use Rattle.cas_base.specs.declared.decl.Form.TheVariants.{Lock, Shared, Table, Function}
use Rattle.cas_base.specs.declared.decl.Global.{Global}
use Rattle.cas_base.specs.declared.decl.Unit.{Unit as UnitOf}
use Rattle.cas_base.specs.Ty.{words_of_ty}
use Rattle.cas_runs.specs.Label.{Each, NameBytes, same_name}
use Rattle.cas_runs.specs.Edge.{Cell, LockWord, SharedWord, TableWord, Stretch, Words, Signature, Edge, signature_of}
use Rattle.cas_runs.specs.Edge.{IsOfKind, most_words, most_live}
use Rattle.cas_runs.specs.Naming.{Layout, Part, ArePlaced}
use Rattle.cas_runs.specs.Machine.{Machine}
use Rattle.cas_runs.specs.Outside.{Holds}
use Rattle.cas_runs.specs.Refines.{Refines}

-- the stack of a machine that has addresses: the address of its first word, and how many words it has
pub record Stack : Type 0 where
  pub address : ℕ
  pub size : ℕ

-- the address of the first word of globals and locks. The others follow, four bytes each
abbrev pub first_address : ℕ
first_address = 4096

-- no stack begins below this address, so that no frame that a function can have reaches below 0
abbrev pub least_stack : ℕ
least_stack = 268435456

-- a stack that a thread can have: at whole words past those of globals and locks, not too small or too large, with
-- addresses that are words, also that of its end, which is never 0
pub record IsStack (edge : Edge) (stack : Stack) : Type 0 where
  pub words_before : ℕ
  pub aligned : stack.address ≡ 4 * words_before
  pub past_words : first_address + 4 * length edge.cells ≤ stack.address
  pub far : least_stack ≤ stack.address
  pub in_reach : stack.address + 4 * stack.size < 2 ^ 32
  pub least : 16 ≤ stack.size
  pub most : stack.size ≤ most_live

-- where the instructions of each function stand: the place of the first, and how many places are theirs
abbrev pub Code : Type 0
Code = NameBytes → Stretch

-- the places before this one are those of Lock and Unlock
abbrev pub first_place : ℕ
first_place = 8

-- a thread ends by a return to this place
abbrev pub end_place : ℕ
end_place = 4294967295

-- a function has these places
pub record IsPlaced (places : Stretch) : Type 0 where
  pub past_locks : first_place ≤ places.first
  pub before_end : places.first + places.size < end_place
  pub some : 1 ≤ places.size

-- the places of two functions are apart
abbrev pub ArePlacesApart : Code → (f g : NameBytes) → Type 0
ArePlacesApart code f g =
    (f ≡ g) ⊎ ((code f).first + (code f).size ≤ (code g).first) ⊎ ((code g).first + (code g).size ≤ (code f).first)

-- the functions stand past Lock and Unlock and before the place that ends a thread, each at one place at least and
-- apart from the others
abbrev pub IsCode : Code → List Signature → Type 0
IsCode code [] = Unit {0}
IsCode code (f ∷ fs) =
    IsPlaced (code f.name) × Each (λ (g : Signature). ArePlacesApart code f.name g.name) fs × IsCode code fs

-- where a machine runs: the edge, which stretches of blocks are objects, the stack, where the instructions of each
-- function stand, and the values that nothing fixes, at each occasion one for each place. Those are flags and words
-- below the stack's top after a call of the lock; and at Enter and Back esp, the registers that a function keeps, the
-- return word and the addresses of the outside's objects
pub record Setting : Type 0 where
  pub edge : Edge
  pub layout : Layout
  pub stack : Stack
  pub code : Code
  pub unknown : (occasion place : ℕ) → ℕ

-- the setting with another layout
abbrev pub laid_out : Setting → Layout → Setting
laid_out setting layout = record setting { layout = layout }

-- a language: of its functions F the names and the sizes of an activation's blocks, and its runs with states S
pub record Language (F S : Type 0) : Type 0 where
  pub name : F → NameBytes
  pub blocks : F → List ℕ
  -- a unit of these functions, which the outside enters
  pub unit : Setting → List F → Machine S
  -- a function alone, in which every call crosses
  pub alone : Setting → F → Machine S
  -- a whole program of these functions, in which no call crosses, from the entry of the thread of this number
  pub thread : Setting → List F → NameBytes → ℕ → Machine S

-- the names of these functions, in their order
abbrev pub names_of : {F S : Type 0} → Language F S → List F → List NameBytes
names_of l [] = []
names_of l (f ∷ fs) = l.name f ∷ names_of l fs

-- the function of this name among these, the first if there are several
abbrev pub found : {F : Type 0} → (F → NameBytes) → List F → NameBytes → Option F
found name_of [] name = None
found name_of (f ∷ fs) name = if same_name (name_of f) name then Some f else found name_of fs name

-- each block is laid out within its size, from the k-th on, and past the blocks nothing is
abbrev pub AreLaidOut : List ℕ → ℕ → (ℕ → List Part) → Type 0
AreLaidOut [] k parts = (j : ℕ) → k ≤ j → parts j ≡ []
AreLaidOut (size ∷ sizes) k parts = ArePlaced 0 size (parts k) × AreLaidOut sizes (k + 1) parts

-- the blocks of each function that is found are laid out within their sizes
abbrev pub IsLayout : {F S : Type 0} → Language F S → List F → Layout → Type 0
IsLayout {F = F} l fs layout =
    (name : NameBytes) (f : F) → found l.name fs name ≡ Some f → AreLaidOut (l.blocks f) 0 (layout name)

-- the word is a lock
abbrev pub lock_at : Option Cell → ℕ → Option ℕ
lock_at (Some LockWord) n = Some n
lock_at _ n = None

abbrev pub lock_number : List Cell → Option Stretch → Option ℕ
lock_number cells None = None
lock_number cells (Some s) = lock_at (slice_get cells s.first) s.first

-- the number of the lock of this name, if it is one
abbrev pub guard_of : Edge → NameBytes → Option ℕ
guard_of edge name = lock_number edge.cells (edge.words name)

abbrev pub and_number : Option ℕ → List ℕ → List ℕ
and_number None ns = ns
and_number (Some n) ns = n ∷ ns

-- the numbers of the locks of these names
abbrev pub lock_numbers : Edge → List NameBytes → List ℕ
lock_numbers edge [] = []
lock_numbers edge (n ∷ ns) = and_number (guard_of edge n) (lock_numbers edge ns)

-- the kind of the words of a global of the type
abbrev pub kind_of_words : Ty → Option Kind
kind_of_words (Int kind) = Some kind
kind_of_words (Array kind size) = Some kind
kind_of_words _ = None

-- a cell with a value of the kind
abbrev pub HasValue : Option Kind → (ℕ → Kind → Cell) → Cell → Type 0
HasValue None cell_of c = ⊥
HasValue (Some kind) cell_of c = (value : ℕ) × IsOfKind value kind × (c ≡ cell_of value kind)

-- a shared word of the type, with its guard
abbrev pub IsSharedCell : Ty → Option ℕ → Cell → Type 0
IsSharedCell ty guard = HasValue (kind_of_words ty) (λ value kind. SharedWord kind guard value)

-- a word of a table of the type
abbrev pub IsTableCell : Ty → Cell → Type 0
IsTableCell ty = HasValue (kind_of_words ty) (λ value kind. TableWord value)

-- the stretch has so many words, and each is such a cell
abbrev pub AreCells : Edge → Option Stretch → ℕ → (Cell → Type 0) → Type 0
AreCells edge stretch count IsSuch =
    (s : Stretch) × (stretch ≡ Some s) × (s.size ≡ count)
    × ((k : ℕ) → k < count → (c : Cell) × (slice_get edge.cells (s.first + k) ≡ Some c) × IsSuch c)

-- the same locks, in whatever order and however often
abbrev pub AreSameLocks : List ℕ → List ℕ → Type 0
AreSameLocks locks others = Holds locks others × Holds others locks

-- the function is known by its types and by the set of locks that it holds
abbrev pub IsKnown : Edge → NameBytes → Ty → List Ty → List NameBytes → Type 0
IsKnown edge name ret params holds =
    (f : Signature) × (signature_of edge.functions name ≡ Some f) × (f.ret ≡ ret) × (f.params ≡ params)
    × AreSameLocks f.holds (lock_numbers edge holds)

-- the edge has what is declared
abbrev pub IsDeclared : Edge → NameBytes → Form → Type 0
IsDeclared edge name Lock = AreCells edge (edge.words name) 1 (λ c. c ≡ LockWord)
IsDeclared edge name (Shared ty lock) =
    AreCells edge (edge.words name) (words_of_ty ty) (IsSharedCell ty (guard_of edge lock))
IsDeclared edge name (Table ty) = AreCells edge (edge.words name) (words_of_ty ty) (IsTableCell ty)
IsDeclared edge name (Function ret params holds) = IsKnown edge name ret params holds

-- the edge has all of these
abbrev pub AreDeclared : Edge → List Decl → Type 0
AreDeclared edge = Each (λ (d : Decl). IsDeclared edge d.name d.form)

-- the value that a word has at first
abbrev pub first_value : Cell → ℕ
first_value LockWord = 1
first_value (SharedWord kind guard initial) = initial
first_value (TableWord value) = value

-- the words from this one on have these values at first
abbrev pub HaveValues : Edge → ℕ → List ℕ → Type 0
HaveValues edge n [] = Unit {0}
HaveValues edge n (v ∷ vs) =
    ((c : Cell) × (slice_get edge.cells n ≡ Some c) × (first_value c ≡ v)) × HaveValues edge (n + 1) vs

-- the defined globals have their values. A lock has none among a unit's data: its word is 1 at first
abbrev pub HaveData : Edge → List Global → Type 0
HaveData edge =
    Each (λ (g : Global). (s : Stretch) × (edge.words g.decl.name ≡ Some s) × HaveValues edge s.first g.values)

-- the words of two names are apart
abbrev pub AreApart : Words → Decl → Decl → Type 0
AreApart words d e =
    (s t : Stretch) → words d.name ≡ Some s → words e.name ≡ Some t →
    (d.name ≡ e.name) ⊎ (s.first + s.size ≤ t.first) ⊎ (t.first + t.size ≤ s.first)

-- no two of them share words
abbrev pub AllApart : Words → List Decl → Type 0
AllApart words [] = Unit {0}
AllApart words (d ∷ ds) = Each (AreApart words d) ds × AllApart words ds

-- the declaration is a function's definition
abbrev pub defined_as : Form → Bool → Bool
defined_as (Function ret params holds) defined = defined
defined_as _ defined = false

-- the unit defines a function of this name
abbrev pub defines : List Decl → NameBytes → Bool
defines [] name = false
defines (d ∷ ds) name = if same_name d.name name && defined_as d.form d.defined then true else defines ds name

-- one of the functions has this name
abbrev pub has_function : {F S : Type 0} → Language F S → List F → NameBytes → Bool
has_function l [] name = false
has_function l (f ∷ fs) name = if same_name (l.name f) name then true else has_function l fs name

-- the functions are those that these declarations define, by their names
abbrev pub AreDefined : {F S : Type 0} → Language F S → List Decl → List F → Type 0
AreDefined l decls fs = (name : NameBytes) → has_function l fs name ≡ defines decls name

-- the outside may enter the functions for which the test is true, and no others
abbrev pub OnlyInside : (NameBytes → Bool) → List Signature → Type 0
OnlyInside test = Each (λ (f : Signature). f.inside ≡ test f.name)

-- what the word is at first is a value of its kind, or a word
abbrev pub IsInKind : Cell → Type 0
IsInKind LockWord = Unit {0}
IsInKind (SharedWord kind guard initial) = IsOfKind initial kind
IsInKind (TableWord value) = IsOfKind value U32

-- an edge that a program can have: not too many words, and what they are at first is in kind
pub record IsEdge (edge : Edge) : Type 0 where
  pub few : length edge.cells ≤ most_words
  pub kinds : Each IsInKind edge.cells

-- a setting in which a unit with these declarations and data may run
pub record FitsUnit (setting : Setting) (decls : List Decl) (globals : List Global) : Type 0 where
  pub edge_is : IsEdge setting.edge
  pub stack_is : IsStack setting.edge setting.stack
  pub code_is : IsCode setting.code setting.edge.functions
  pub declared : AreDeclared setting.edge decls
  pub data_there : HaveData setting.edge globals
  pub apart : AllApart setting.edge.words decls
  pub entered : OnlyInside (defines decls) setting.edge.functions

-- a setting in which the function of this name, of a unit with these declarations, may run alone: all others are
-- outside
pub record FitsFunction (setting : Setting) (decls : List Decl) (name : NameBytes) : Type 0 where
  pub edge_is : IsEdge setting.edge
  pub stack_is : IsStack setting.edge setting.stack
  pub code_is : IsCode setting.code setting.edge.functions
  pub declared : AreDeclared setting.edge decls
  pub apart : AllApart setting.edge.words decls
  pub entered : OnlyInside (same_name name) setting.edge.functions

-- what is known where these functions run, in a unit, alone or in a program, with these declarations: the edge has all
-- that is declared, no two names share words, and each of the functions is declared as defined
pub record AreKnown {F S : Type 0} (l : Language F S) (edge : Edge) (decls : List Decl) (fs : List F) : Type 0 where
  pub declared : AreDeclared edge decls
  pub apart : AllApart edge.words decls
  pub defined : (name : NameBytes) → has_function l fs name ≡ true → defines decls name ≡ true

-- the edge at which the outside may enter the functions for which the test is true
abbrev pub entered_by : (NameBytes → Bool) → Edge → Edge
entered_by test edge =
    record edge { functions = map (λ (f : Signature). record f { inside = test f.name }) edge.functions }

-- where a unit with these declarations runs among others: the outside enters what it defines
abbrev pub at_unit : Setting → List Decl → Setting
at_unit setting decls = record setting { edge = entered_by (defines decls) setting.edge }

-- the function has the type of a thread's entry: it takes the thread's number, returns nothing and holds no lock
pub record IsEntry (edge : Edge) (entry : NameBytes) : Type 0 where
  pub signature : Signature
  pub known : signature_of edge.functions entry ≡ Some signature
  pub ret : signature.ret ≡ Void
  pub params : signature.params ≡ Int I32 ∷ []
  pub holds : signature.holds ≡ []

-- what these units declare, one unit after another
abbrev pub all_decls : {F : Type 0} → List (UnitOf F) → List Decl
all_decls [] = []
all_decls (u ∷ us) = u.decls ++ all_decls us

-- their data
abbrev pub all_globals : {F : Type 0} → List (UnitOf F) → List Global
all_globals [] = []
all_globals (u ∷ us) = u.globals ++ all_globals us

-- their functions
abbrev pub all_functions : {F : Type 0} → List (UnitOf F) → List F
all_functions [] = []
all_functions (u ∷ us) = u.funs ++ all_functions us

-- an edge at which a thread of the whole program of these units may run: the edge has all that they declare, with their
-- data, their functions are those that they declare as defined, and the entry is one of them
pub record FitsProgram {F S : Type 0} (l : Language F S) (edge : Edge) (units : List (UnitOf F))
    (entry : NameBytes) : Type 0 where
  pub edge_is : IsEdge edge
  pub declared : AreDeclared edge (all_decls units)
  pub data_there : HaveData edge (all_globals units)
  pub apart : AllApart edge.words (all_decls units)
  pub defined : AreDefined l (all_decls units) (all_functions units)
  pub there : has_function l (all_functions units) entry ≡ true
  pub entry_is : IsEntry edge entry

-- what a naming of layouts makes of a layout of the source's blocks is one of the target's
abbrev pub LaidOutToo : {F G S T : Type 0} → Language F T → Language G S → List F → List G → (Layout → Layout) → Type 0
LaidOutToo lt ls ts ss naming = (layout : Layout) → IsLayout ls ss layout → IsLayout lt ts (naming layout)

-- the unit t refines the unit s: their declarations, their data and the names of their functions are equal, the
-- functions are those that are declared as defined, and its runs refine those of s in each setting of s, where its
-- own objects are at the places that the naming gives
pub record UnitRefines {F G S T : Type 0} (lt : Language F T) (ls : Language G S) (t : UnitOf F)
    (s : UnitOf G) : Type 0 where
  pub decls : t.decls ≡ s.decls
  pub globals : t.globals ≡ s.globals
  pub names : names_of lt t.funs ≡ names_of ls s.funs
  pub defined : AreDefined ls s.decls s.funs
  pub naming : Layout → Layout
  pub laid_out_too : LaidOutToo lt ls t.funs s.funs naming
  pub refines : (setting : Setting) → FitsUnit setting s.decls s.globals → IsLayout ls s.funs setting.layout →
      Refines setting.edge (lt.unit (laid_out setting (naming setting.layout)) t.funs) (ls.unit setting s.funs)

-- the function t refines the function s, where these are the declarations of the unit of both, and both have this name,
-- which they define
pub record FunctionRefines {F G S T : Type 0} (lt : Language F T) (ls : Language G S) (decls : List Decl)
    (name : NameBytes) (t : F) (s : G) : Type 0 where
  pub target_name : lt.name t ≡ name
  pub source_name : ls.name s ≡ name
  pub defined : defines decls name ≡ true
  pub naming : Layout → Layout
  pub laid_out_too : LaidOutToo lt ls (t ∷ []) (s ∷ []) naming
  pub refines : (setting : Setting) → FitsFunction setting decls name → IsLayout ls (s ∷ []) setting.layout →
      Refines setting.edge (lt.alone (laid_out setting (naming setting.layout)) t) (ls.alone setting s)

-- at an edge that fits the program of the units ss, each thread of this entry of the program of ts, with equal
-- declarations, data and names of functions, refines that of ss, in each layout, on each stack and wherever the code
-- can stand. A thread's number is a word
pub record ThreadRefines {F G S T : Type 0} (lt : Language F T) (ls : Language G S) (edge : Edge) (ts : List (UnitOf F))
    (ss : List (UnitOf G)) (entry : NameBytes) : Type 0 where
  pub fits : FitsProgram ls edge ss entry
  pub decls : all_decls ts ≡ all_decls ss
  pub globals : all_globals ts ≡ all_globals ss
  pub names : names_of lt (all_functions ts) ≡ names_of ls (all_functions ss)
  pub naming : Layout → Layout
  pub laid_out_too : LaidOutToo lt ls (all_functions ts) (all_functions ss) naming
  pub refines : (setting : Setting) (thread : ℕ) → setting.edge ≡ edge → IsStack setting.edge setting.stack →
      IsCode setting.code setting.edge.functions → IsLayout ls (all_functions ss) setting.layout → IsOfKind thread U32 →
      Refines setting.edge
      (lt.thread (laid_out setting (naming setting.layout)) (all_functions ts) entry thread)
      (ls.thread setting (all_functions ss) entry thread)

-- Declarations: what sort they are, which agree, and which are looked up by a name.
use Rattle.std.specs.Prelude.{ℕ, Bool, true, false, not, ◌&&◌, ◌==◌, List, [], ◌∷◌, length, Option, Some, None, filter}
use Rattle.std.specs.List.{find, list_any, list_all}
use Rattle.std.specs.Cmp.Lexicographic.{pointwise}
use Rattle.std.specs.Str.{bytes_eq}
use Rattle.cas_base.specs.declared.kind.Kind.TheVariants.{I32}
use Rattle.cas_base.specs.declared.kind.Ty.TheVariants.{Void, Int}
use Rattle.cas_base.specs.declared.decl.Form.{Form}
use Rattle.cas_base.specs.declared.decl.Form.TheVariants.{Lock, Shared, Table, Function}
use Rattle.cas_base.specs.declared.decl.Decl.{Decl}
use Rattle.cas_base.specs.Ty.{same_ty, words_of_ty}

-- a lock
abbrev pub is_lock : Form → Bool
is_lock Lock = true
is_lock _ = false

-- a table of constants
abbrev pub is_table : Form → Bool
is_table (Table ty) = true
is_table _ = false

-- a function
abbrev pub is_function : Form → Bool
is_function (Function ret params holds) = true
is_function _ = false

-- the lock that guards a shared global
abbrev pub guard_of : Form → Option (List ℕ)
guard_of (Shared ty lock) = Some lock
guard_of _ = None

-- the words of a form: one for a lock, those of its type for a global, none for a function
abbrev pub words_of_form : Form → ℕ
words_of_form Lock = 1
words_of_form (Shared ty lock) = words_of_ty ty
words_of_form (Table ty) = words_of_ty ty
words_of_form (Function ret params holds) = 0

-- each name of the one list is in the other
abbrev pub is_within : List (List ℕ) → List (List ℕ) → Bool
is_within names others = list_all (λ name. list_any (bytes_eq name) others) names

-- the two lists have the same names, in whatever order and however often
abbrev pub same_set : List (List ℕ) → List (List ℕ) → Bool
same_set names others = is_within names others && is_within others names

-- two declarations agree: they have the same kind, type, guard or return, parameters and set of held locks
abbrev pub agrees : Form → Form → Bool
agrees Lock Lock = true
agrees (Shared ty lock) (Shared other guard) = same_ty ty other && bytes_eq lock guard
agrees (Table ty) (Table other) = same_ty ty other
agrees (Function ret params holds) (Function other others held) =
    same_ty ret other && pointwise same_ty params others && same_set holds held
agrees _ _ = false

-- what a thread may enter: `void f(int)` that holds no lock
abbrev pub is_entry : Form → Bool
is_entry (Function ret params holds) =
    same_ty ret Void && pointwise same_ty params (Int I32 ∷ []) && (length holds == 0)
is_entry _ = false

-- whether the declaration has this name
abbrev pub is_named : List ℕ → Decl → Bool
is_named name decl = bytes_eq name decl.name

-- the declarations that are definitions
abbrev pub definitions : List Decl → List Decl
definitions decls = filter (λ decl. decl.defined) decls

-- the declarations that aren't
abbrev pub references : List Decl → List Decl
references decls = filter (λ decl. not decl.defined) decls

-- the functions that a unit defines
abbrev pub functions_of : List Decl → List Decl
functions_of decls = filter (λ decl. is_function decl.form) (definitions decls)

-- the globals and locks that a unit defines
abbrev pub data_of : List Decl → List Decl
data_of decls = filter (λ decl. not (is_function decl.form)) (definitions decls)

-- the definition of a name, among these definitions
abbrev pub definition_of : List Decl → List ℕ → Option Decl
definition_of defined name = find (is_named name) defined

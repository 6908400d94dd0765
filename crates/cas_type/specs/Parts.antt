-- Items by their parts, capped counts, and the locals whose pointers are made.
use Rattle.std.specs.Prelude.{ℕ, zero, suc, ◌+◌, ◌-◌, ◌^◌, ◌==◌, Bool, ◌||◌, nat_le, min, List, [], ◌∷◌, ◌++◌, length, if◌then◌else◌, Option, Some, None}
use Rattle.std.specs.List.{list_any}
use Rattle.cas_base.specs.declared.decl.Decl.{Decl}
use Rattle.cas_base.specs.declared.kind.Ty.{Ty}
use Rattle.cas_base.specs.declared.place.Place.{Place}
use Rattle.cas_base.specs.Ty.{words_of_ty}
use Rattle.cas_syntax.specs.declared.tree.Ident.{Ident}
use Rattle.cas_type.specs.declared.named.Named.{Named}
use Rattle.cas_typed.specs.declared.fault.TypeCode.TheVariants.{T1, T2, T3}
use Rattle.cas_typed.specs.declared.fault.TypeCount.TheVariants.{Parameters, Functions, Words}
use Rattle.cas_typed.specs.declared.rows.Local.{Local}
use Rattle.cas_typed.specs.declared.rows.StmtRow.{StmtRow}
use Rattle.cas_typed.specs.declared.rows.StmtRowForm.{StmtRowForm}
use Rattle.cas_typed.specs.declared.rows.StmtRowForm.TheVariants as row
use Rattle.cas_typed.specs.declared.tree.TypedExpr.{TypedExpr}
use Rattle.cas_typed.specs.Counts.{most_parameters, most_functions, most_words, parameter_types, function_count, word_count}
use Rattle.cas_typed.specs.Faults.{Fault, fault, at_name, above, sooner}
use Rattle.cas_typed.specs.Modules.{undeclared_in, repeated, are_locks, is_defined_again, agrees_with, elements_of, has_element}
use Rattle.cas_typed.specs.Resolved.{TypedExprTree, literal, null, local, global, element, place_of, behind, pointer_plus, plus_pointer, pointer_minus, pointer_difference, compare, unary, binary, narrow, and_also, or_else, choose, TypedTargetTree, to_local, to_global, to_element, to_behind, typed_expr_tree, typed_target_tree}
use Rattle.cas_typed.specs.Scopes.{item_named}
use Rattle.cas_typed.specs.Types.{variable_type}
use Rattle.cas_typed.specs.Walk.{at_found}

-- a count, or the greatest `u64` if it is greater
abbrev pub capped : ℕ → ℕ
capped n = min n (2 ^ 64 - 1)

-- a name with its place in a text
abbrev pub ident_of : Named → Ident
ident_of x = record { name = x.name.now; place = x.place }

-- the place of the first of several names, and the places of the others
abbrev pub first_place : (last : Place) → List Place → Place
first_place last [] = last
first_place last (p ∷ ps) = p

abbrev pub later_places : List Place → List Place
later_places [] = []
later_places (p ∷ ps) = ps

-- the first fault of an item, by its parts: what it declares, its values, and its names of parameters and in `holds`

-- a count that passes its limit
abbrev pub counts_fault : List Decl → Decl → Place → Option Fault
counts_fault before d p =
    sooner (above most_parameters p Parameters (length (parameter_types d.form)))
    (sooner (above most_functions p Functions (function_count (before ++ d ∷ [])))
    (above most_words p Words (word_count (before ++ d ∷ []))))

-- what doesn't fit, or else a count
abbrev pub fit_fault : List Decl → Decl → (values : List ℕ) → (held : List Ident) → Place → Option Fault
fit_fault before d vs held p =
    sooner (if agrees_with (item_named 0 before d.name) d.form then None else Some (fault T3 p (Some d.name)))
    (sooner (if has_element (variable_type d.form) then None else Some (fault T3 p (Some d.name)))
    (sooner (if nat_le (length vs) (elements_of (variable_type d.form)) then None else Some (fault T3 p (Some d.name)))
    (sooner (if are_locks before held then None else Some (fault T3 p (Some d.name)))
    (counts_fault before d p))))

-- a name that isn't declared or is there twice, or else what doesn't fit
abbrev pub parts_fault : List Decl → Decl → (values : List ℕ) → (params held : List Ident) → Place → Option Fault
parts_fault before d vs params held p =
    sooner (at_found (undeclared_in before held) (at_name T1))
    (sooner (if is_defined_again before d then Some (fault T2 p (Some d.name)) else None)
    (sooner (at_found (repeated [] params) (at_name T2))
    (sooner (at_found (repeated [] held) (at_name T2))
    (fit_fault before d vs held p))))

-- the locals whose pointers are made, in order of text

abbrev pub pointers_of : TypedExprTree → List ℕ
pointers_of (literal w) = []
pointers_of null = []
pointers_of (local m) = []
pointers_of (global g at) = []
pointers_of (element g at s a) = pointers_of a
pointers_of (place_of m) = m ∷ []
pointers_of (behind k a) = pointers_of a
pointers_of (pointer_plus s a b) = pointers_of a ++ pointers_of b
pointers_of (plus_pointer s a b) = pointers_of a ++ pointers_of b
pointers_of (pointer_minus s a b) = pointers_of a ++ pointers_of b
pointers_of (pointer_difference a b) = pointers_of a ++ pointers_of b
pointers_of (compare op a b) = pointers_of a ++ pointers_of b
pointers_of (unary op a) = pointers_of a
pointers_of (binary op s a b) = pointers_of a ++ pointers_of b
pointers_of (narrow k a) = pointers_of a
pointers_of (and_also a b) = pointers_of a ++ pointers_of b
pointers_of (or_else a b) = pointers_of a ++ pointers_of b
pointers_of (choose c a b) = pointers_of c ++ (pointers_of a ++ pointers_of b)

abbrev pub pointers_of_target : TypedTargetTree → List ℕ
pointers_of_target (to_local m) = []
pointers_of_target (to_global g at) = []
pointers_of_target (to_element g at s a) = pointers_of a
pointers_of_target (to_behind k a) = pointers_of a

abbrev pub pointers_of_optional : Option TypedExpr → List ℕ
pointers_of_optional None = []
pointers_of_optional (Some a) = pointers_of (typed_expr_tree a)

abbrev pub pointers_of_exprs : List TypedExpr → List ℕ
pointers_of_exprs [] = []
pointers_of_exprs (a ∷ args) = pointers_of (typed_expr_tree a) ++ pointers_of_exprs args

-- of a row by itself, without its parts
abbrev pub pointers_of_row : StmtRowForm → List ℕ
pointers_of_row row.Skip = []
pointers_of_row (row.Assign target a) = pointers_of_target (typed_target_tree target) ++ pointers_of (typed_expr_tree a)
pointers_of_row (row.Call kept g at args) = pointers_of_exprs args
pointers_of_row (row.Block ns) = []
pointers_of_row (row.If c i j) = pointers_of (typed_expr_tree c)
pointers_of_row (row.While c i) = pointers_of (typed_expr_tree c)
pointers_of_row (row.Do i c) = pointers_of (typed_expr_tree c)
pointers_of_row (row.For h c j k) = pointers_of_optional c
pointers_of_row row.Break = []
pointers_of_row row.Continue = []
pointers_of_row (row.Return a) = pointers_of_optional a
pointers_of_row (row.Lock g) = []
pointers_of_row (row.Unlock g) = []
pointers_of_row (row.Print a) = pointers_of (typed_expr_tree a)

abbrev pub pointers_of_rows : List StmtRow → List ℕ
pointers_of_rows [] = []
pointers_of_rows (r ∷ rows) = pointers_of_row r.form ++ pointers_of_rows rows

-- for each of so many numbers, from this one on, whether it is among these
abbrev pub marks_of : (numbers : List ℕ) → (number count : ℕ) → List Bool
marks_of ms n zero = []
marks_of ms n (suc k) = list_any (λ m. m == n) ms ∷ marks_of ms (n + 1) k

-- marks of the numbers from this one on, and that of a further number
abbrev pub marked : (further number : ℕ) → List Bool → List Bool
marked m n [] = []
marked m n (b ∷ bs) = (b || (m == n)) ∷ marked m (n + 1) bs

-- locals of these types, after this many cells, each with its mark
abbrev pub marked_locals : (marks : List Bool) → (first : ℕ) → List Ty → List Local
marked_locals [] first tys = []
marked_locals (b ∷ bs) first [] = []
marked_locals (b ∷ bs) first (ty ∷ tys) = record { ty = ty; first = first; addressed = b } ∷ marked_locals bs
    (first + words_of_ty ty) tys

-- The walk through a module: it answers the first fault, or what the module is resolved to.
use Rattle.std.specs.Prelude.{◌≡◌, ℕ, ◌==◌, Bool, true, false, nat_le, List, [], ◌∷◌, ◌++◌, length, if◌then◌else◌, Option, Some, None, Result, Ok, Err}
use Rattle.cas_base.specs.Ty.{same_kind}
use Rattle.cas_base.specs.declared.decl.Decl.{Decl}
use Rattle.cas_base.specs.declared.decl.Form.TheVariants.{Lock, Shared, Table, Function}
use Rattle.cas_base.specs.declared.kind.Kind.TheVariants.{I32}
use Rattle.cas_base.specs.declared.kind.Ty.{Ty}
use Rattle.cas_base.specs.declared.kind.Ty.TheVariants.{Int, Ptr, Array}
use Rattle.cas_base.specs.declared.place.Place.{Place}
use Rattle.cas_syntax.specs.declared.tree.Ident.{Ident}
use Rattle.cas_syntax.specs.declared.tree.BinaryOperator.{BinaryOperator}
use Rattle.cas_syntax.specs.Tree.{ExprTree, literal, name, index, deref, address, address_index, unary, cast, binary, and_also, or_else, conditional, TargetTree, to_name, to_index, to_deref, InitTree, nothing, value, called, StmtTree, skip, declare, assign, call, block, if_, while_, do_, for_, break_, continue_, return_, lock, unlock, print, StmtOption, absent, present, StmtList, no_more, one_more, FunTree, ItemTree, global, prototype, define, ModuleTree}
use Rattle.cas_typed.specs.declared.fault.TypeCode.TheVariants.{T1, T2, T3, T4, T5, T6, T7}
use Rattle.cas_typed.specs.declared.fault.TypeCount.TheVariants.{Parameters, Cells, Nodes, Functions, Words}
use Rattle.cas_typed.specs.declared.tree.Destination.{Destination}
use Rattle.cas_typed.specs.Counts.{most_parameters, most_cells, most_nodes, most_functions, most_words, parameter_types, local_types, cells_of, nodes_of, function_count, word_count}
use Rattle.cas_typed.specs.Faults.{Fault, fault, at_name, above, sooner, unless, then_, found}
use Rattle.cas_typed.specs.Modules.{decl_of, place_of, values_of, parameter_names, held_names, undeclared_in, repeated, are_locks, is_defined_again, agrees_with, elements_of, has_element, return_type, locals_in, scope_in, filled_module}
use Rattle.cas_typed.specs.Resolved as t
use Rattle.cas_typed.specs.Resolved.{TypedExprTree, TypedTargetTree, TypedStmtTree, TypedStmtOption, TypedStmtList, TypedFunTree, TypedModuleTree}
use Rattle.cas_typed.specs.Resolving.{tested, resolved, value_of, values_of as argument_values, Written, unwritable, written, target_of}
use Rattle.cas_typed.specs.Scopes.{Scope, Meaning, meaning, undeclared, variable, item, item_named, is_in_block, declaring, inside, past, past_option, after, after_option}
use Rattle.cas_typed.specs.Types.{no_value, variable_type}
use Rattle.cas_typed.specs.Typing.{assigned}

-- T1 and T6 of names

-- of a name that must be declared
abbrev pub fault_of_name : Ident → Meaning → Option Fault
fault_of_name x undeclared = at_name T1 x
fault_of_name x _ = None

-- of a name alone: no global array
abbrev pub fault_alone : Ident → Meaning → Option Fault
fault_alone x undeclared = at_name T1 x
fault_alone x (item g (Shared (Array k n) guard)) = at_name T6 x
fault_alone x (item g (Table (Array k n))) = at_name T6 x
fault_alone x _ = None

-- of &x: no global, and no pointer variable
abbrev pub fault_of_address : Ident → Meaning → Option Fault
fault_of_address x undeclared = at_name T1 x
fault_of_address x (item g (Shared ty guard)) = at_name T6 x
fault_of_address x (item g (Table ty)) = at_name T6 x
fault_of_address x (variable n (Ptr k)) = at_name T6 x
fault_of_address x _ = None

-- of &x[e]: no global
abbrev pub fault_of_element : Ident → Meaning → Option Fault
fault_of_element x undeclared = at_name T1 x
fault_of_element x (item g (Shared ty guard)) = at_name T6 x
fault_of_element x (item g (Table ty)) = at_name T6 x
fault_of_element x _ = None

-- the first of an expression, in order of text
abbrev pub names_fault : Scope → ExprTree → Option Fault
names_fault s (literal n k) = None
names_fault s (name x) = fault_alone x (meaning s x)
names_fault s (index x a) = sooner (fault_of_name x (meaning s x)) (names_fault s a)
names_fault s (deref a) = names_fault s a
names_fault s (address x) = fault_of_address x (meaning s x)
names_fault s (address_index x a) = sooner (fault_of_element x (meaning s x)) (names_fault s a)
names_fault s (unary op a) = names_fault s a
names_fault s (cast k a) = names_fault s a
names_fault s (binary op a b) = sooner (names_fault s a) (names_fault s b)
names_fault s (and_also a b) = sooner (names_fault s a) (names_fault s b)
names_fault s (or_else a b) = sooner (names_fault s a) (names_fault s b)
names_fault s (conditional c a b) = sooner (names_fault s c) (sooner (names_fault s a) (names_fault s b))

abbrev pub target_fault : Scope → TargetTree → Option Fault
target_fault s (to_name x) = fault_alone x (meaning s x)
target_fault s (to_index x a) = sooner (fault_of_name x (meaning s x)) (names_fault s a)
target_fault s (to_deref a) = names_fault s a

abbrev pub result_fault : Scope → Option Ident → Option Fault
result_fault s None = None
result_fault s (Some x) = fault_alone x (meaning s x)

abbrev pub arguments_fault : Scope → List ExprTree → Option Fault
arguments_fault s [] = None
arguments_fault s (a ∷ args) = sooner (names_fault s a) (arguments_fault s args)

-- T5, T4 and T3 of statements

-- types that don't fit
abbrev pub misfit : Place → Fault
misfit p = fault T3 p None

-- a condition
abbrev pub walk_test : Scope → Place → ExprTree → Result TypedExprTree Fault
walk_test s p a = unless (names_fault s a) (found (tested (resolved s a)) (misfit p))

-- a value for this type
abbrev pub walk_value : Scope → Place → ExprTree → Ty → Result TypedExprTree Fault
walk_value s p a ty = unless (names_fault s a) (found (value_of s a ty) (misfit p))

-- a target with the value that it takes at each type
abbrev pub walk_write : Place → Written → (Ty → Option TypedExprTree) → Result TypedStmtTree Fault
walk_write p unwritable taken = Err (fault T5 p None)
walk_write p (written target ty) taken = then_ (found (taken ty) (misfit p)) (λ e. Ok (t.assign p target e))

abbrev pub walk_assign : Scope → Place → TargetTree → Option BinaryOperator → ExprTree → Result TypedStmtTree Fault
walk_assign s p target op a =
    unless (sooner (target_fault s target) (names_fault s a))
    (walk_write p (target_of s target) (λ ty. value_of s (assigned target op a) ty))

-- where the result of a call is kept: in a local integer or pointer
abbrev pub kept_in : Meaning → Option Destination
kept_in (variable n (Int k)) = Some (record { local = n; ty = Int k })
kept_in (variable n (Ptr k)) = Some (record { local = n; ty = Ptr k })
kept_in _ = None

abbrev pub walk_result : Scope → Place → Option Ident → Result (Option Destination) Fault
walk_result s p None = Ok None
walk_result s p (Some x) = then_ (found (kept_in (meaning s x)) (fault T5 p None)) (λ d. Ok (Some d))

-- whether a result of the type is taken
abbrev pub takes_at : Ty → Ty → Bool
takes_at (Int k) (Int j) = true
takes_at (Ptr k) (Ptr j) = same_kind j k
takes_at _ _ = false

abbrev pub takes : Option Destination → (ret : Ty) → Bool
takes None ret = true
takes (Some d) ret = takes_at d.ty ret

-- a call of what the name means
abbrev pub walk_callee : Scope → Place → Option Destination → Ident → List ExprTree → Meaning →
    Result TypedStmtTree Fault
walk_callee s p kept f args (item g (Function ret tys holds)) =
    unless (if length args == length tys then None else at_name T4 f)
    (unless (if takes kept ret then None else Some (misfit p))
    (then_ (found (argument_values s args tys) (misfit p)) (λ es. Ok (t.call p kept g f.place es))))
walk_callee s p kept f args _ = Err (misfit p)

abbrev pub walk_call : Scope → Place → Option Ident → Ident → List ExprTree → Result TypedStmtTree Fault
walk_call s p result f args =
    unless (sooner (result_fault s result) (sooner (fault_of_name f (meaning s f)) (arguments_fault s args)))
    (then_ (walk_result s p result) (λ kept. walk_callee s p kept f args (meaning s f)))

-- a name in `lock` or `unlock`
abbrev pub walk_lock : Place → Ident → Meaning → Result ℕ Fault
walk_lock p x undeclared = Err (fault T1 x.place (Some x.name))
walk_lock p x (item g Lock) = Ok g
walk_lock p x _ = Err (misfit p)

abbrev pub walk_optional : Scope → Place → Option ExprTree → Result (Option TypedExprTree) Fault
walk_optional s p None = Ok None
walk_optional s p (Some a) = then_ (walk_test s p a) (λ c. Ok (Some c))

abbrev pub walk_return : Scope → Place → Ty → Option ExprTree → Result TypedStmtTree Fault
walk_return s p ret None = Ok (t.return_ p (no_value ret))
walk_return s p ret (Some a) = then_ (walk_value s p a ret) (λ e. Ok (t.return_ p (Some e)))

-- a name that is declared twice in its block
abbrev pub doubled : Scope → Ident → Option Fault
doubled s x = if is_in_block s x then at_name T2 x else None

-- a local with what it begins with: after its name it is visible
abbrev pub walk_declare : Scope → Place → Ty → Ident → InitTree → Result TypedStmtTree Fault
walk_declare s p ty x nothing = unless (doubled s x) (if has_element (Some ty) then Ok (t.skip p) else Err (misfit p))
walk_declare s p ty x (value a) = unless (doubled s x) (walk_assign (declaring s ty x) p (to_name x) None a)
walk_declare s p ty x (called f args) = unless (doubled s x) (walk_call (declaring s ty x) p (Some x) f args)

-- what may only stand in a loop
abbrev pub walk_leave : (in_loop : Bool) → Place → TypedStmtTree → Result TypedStmtTree Fault
walk_leave true p a = Ok a
walk_leave false p a = Err (fault T7 p None)

abbrev mutual
  -- a statement of a function with this return type, in a loop or not
  pub walk : (ret : Ty) → (in_loop : Bool) → Scope → StmtTree → Result TypedStmtTree Fault
  walk ret l s (skip p) = Ok (t.skip p)
  walk ret l s (declare p ty x a) = walk_declare s p ty x a
  walk ret l s (assign p target op a) = walk_assign s p target op a
  walk ret l s (call p x f args) = walk_call s p x f args
  walk ret l s (block p bs) = then_ (walk_list ret l (inside s) bs) (λ rs. Ok (t.block p rs))
  walk ret l s (if_ p c a o) =
      then_ (walk_test s p c) (λ c'. then_ (walk ret l s a)
      (λ a'. then_ (walk_part ret l (past s a) o) (λ o'. Ok (t.if_ p c' a' o'))))
  walk ret l s (while_ p c a) = then_ (walk_test s p c) (λ c'. then_ (walk ret true s a) (λ a'. Ok (t.while_ p c' a')))
  walk ret l s (do_ p a c) = then_ (walk ret true s a) (λ a'. then_ (walk_test s p c) (λ c'. Ok (t.do_ p a' c')))
  walk ret l s (for_ p i c u a) =
      then_ (walk_part ret l (inside s) i) (λ i'. then_ (walk_optional (after_option (inside s) i) p c) (λ c'.
      then_ (walk_part ret l (after_option (inside s) i) u)
      (λ u'. then_ (walk ret true (past_option (after_option (inside s) i) u) a) (λ a'.
      Ok (t.for_ p i' c' u' a')))))
  walk ret l s (break_ p) = walk_leave l p (t.break_ p)
  walk ret l s (continue_ p) = walk_leave l p (t.continue_ p)
  walk ret l s (return_ p a) = walk_return s p ret a
  walk ret l s (lock p x) = then_ (walk_lock p x (meaning s x)) (λ g. Ok (t.lock p g))
  walk ret l s (unlock p x) = then_ (walk_lock p x (meaning s x)) (λ g. Ok (t.unlock p g))
  walk ret l s (print p a) = then_ (walk_value s p a (Int I32)) (λ e. Ok (t.print p e))

  pub walk_part : (ret : Ty) → (in_loop : Bool) → Scope → StmtOption → Result TypedStmtOption Fault
  walk_part ret l s absent = Ok t.absent
  walk_part ret l s (present a) = then_ (walk ret l s a) (λ a'. Ok (t.present a'))

  -- the statements of a block
  pub walk_list : (ret : Ty) → (in_loop : Bool) → Scope → StmtList → Result TypedStmtList Fault
  walk_list ret l s no_more = Ok t.no_more
  walk_list ret l s (one_more a bs) =
      then_ (walk ret l s a) (λ a'. then_ (walk_list ret l (after s a) bs) (λ rs. Ok (t.one_more a' rs)))

-- a fault at a name that is found, if one is
abbrev pub at_found : Option Ident → (Ident → Option Fault) → Option Fault
at_found None told = None
at_found (Some x) told = told x

-- a fault at the name of an item
abbrev pub at_item : ItemTree → Fault
at_item a = fault T3 (place_of a) (Some (decl_of a).name)

-- the first fault of an item, but for its body: a name in `holds` that isn't declared, a name twice, what doesn't
-- fit, a count
abbrev pub item_fault : List Decl → ItemTree → Option Fault
item_fault before a =
    sooner (at_found (undeclared_in before (held_names a)) (at_name T1))
    (sooner (if is_defined_again before (decl_of a) then Some (fault T2 (place_of a) (Some (decl_of a).name)) else None)
    (sooner (at_found (repeated [] (parameter_names a)) (at_name T2))
    (sooner (at_found (repeated [] (held_names a)) (at_name T2))
    (sooner (if agrees_with (item_named 0 before (decl_of a).name) (decl_of a).form then None else Some (at_item a))
    (sooner (if has_element (variable_type (decl_of a).form) then None else Some (at_item a))
    (sooner (if nat_le (length (values_of a)) (elements_of (variable_type (decl_of a).form)) then None else Some
    (at_item a))
    (sooner (if are_locks before (held_names a) then None else Some (at_item a))
    (sooner (above most_parameters (place_of a) Parameters (length (parameter_types (decl_of a).form)))
    (sooner (above most_functions (place_of a) Functions (function_count (before ++ decl_of a ∷ [])))
    (above most_words (place_of a) Words (word_count (before ++ decl_of a ∷ []))))))))))))

-- a function's body, and then its counts
abbrev pub walk_function : List Decl → FunTree → Result TypedFunTree Fault
walk_function before f =
    then_ (walk_list (return_type f.decl.form) false (scope_in before f) f.body) (λ body.
    unless (sooner (above most_cells f.place Cells (cells_of f)) (above most_nodes f.place Nodes (nodes_of f)))
    (Ok (record { item = length before; locals = locals_in body 0 0 (local_types f); body = body })))

-- items after these declarations
abbrev pub walk_items : List Decl → List ItemTree → Result (List TypedFunTree) Fault
walk_items before [] = Ok []
walk_items before (global d vs p ∷ rest) = unless (item_fault before (global d vs p))
    (walk_items (before ++ d ∷ []) rest)
walk_items before (prototype d hs p ∷ rest) =
    unless (item_fault before (prototype d hs p)) (walk_items (before ++ d ∷ []) rest)
walk_items before (define f ∷ rest) =
    unless (item_fault before (define f))
    (then_ (walk_function before f) (λ r. then_ (walk_items (before ++ f.decl ∷ []) rest) (λ rs. Ok (r ∷ rs))))

-- a module
abbrev pub walk_module : ModuleTree → Result TypedModuleTree Fault
walk_module m = then_ (walk_items [] m.items) (λ rs. Ok (record { module_tree = filled_module m; functions = rs }))

-- the first fault of a module
abbrev pub HasTypeFault : ModuleTree → Fault → Type 0
HasTypeFault m f = walk_module m ≡ Err f

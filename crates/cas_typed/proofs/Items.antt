-- A module is typed exactly if the walk through it ends without a fault, with the same resolved module.
use Rattle.std.proofs.Common.{◌≡◌, ◌≤◌, ℕ, ◌+◌, Bool, true, false, ◌&&◌, ◌||◌, if◌then◌else◌, List, [], ◌∷◌, ◌++◌, length, Option, Some, None, Ok, refl, sym, ap, subst, ◌∙◌, arith}
use Rattle.std.specs.Prelude.{nat_lt, nat_le, min, ◌^◌, ◌-◌}
use Rattle.std.specs.List.{list_any}
use Rattle.cas_base.specs.Decl.{is_named}
use Rattle.cas_base.specs.declared.decl.Decl.{Decl}
use Rattle.cas_base.specs.declared.place.Place.{Place}
use Rattle.cas_syntax.specs.declared.tree.Ident.{Ident}
use Rattle.cas_syntax.specs.Tree.{FunTree, ItemTree, global, prototype, define, ModuleTree}
use Rattle.cas_typed.specs.declared.fault.TypeCode.{TypeCode}
use Rattle.cas_typed.specs.declared.fault.TypeCode.TheVariants.{T1, T2}
use Rattle.cas_typed.specs.declared.fault.TypeCount.{TypeCount}
use Rattle.cas_typed.specs.declared.fault.TypeCount.TheVariants.{Parameters, Cells, Nodes, Functions, Words}
use Rattle.cas_typed.specs.Counts.{most_parameters, most_cells, most_nodes, most_functions, most_words, parameter_types, local_types, cells_of, nodes_of, function_count, word_count}
use Rattle.cas_typed.specs.Faults.{Fault, fault, limit, at_name, above, sooner, unless, then_}
use Rattle.cas_typed.specs.Modules.{decl_of, place_of, values_of, parameter_names, held_names, undeclared_in, repeated, means_lock, are_locks, is_defined_again, agrees_with, elements_of, has_element, return_type, IsItem, locals_in, scope_in, IsFunction, AreItems, no_item, a_global, a_prototype, a_function, filled_module, IsTyped}
use Rattle.cas_typed.specs.Resolved.{TypedStmtList, TypedFunTree, TypedModuleTree}
use Rattle.cas_typed.specs.Scopes.{item, item_named}
use Rattle.cas_typed.specs.Types.{variable_type}
use Rattle.cas_typed.specs.Typing.{AreStmts}
use Rattle.cas_typed.specs.Walk.{walk_list, at_found, at_item, item_fault, walk_function, walk_items, walk_module}
use Rattle.cas_typed.proofs.Basics.{Holds, Holds-unless_none, Holds-then, Holds-map}
use Rattle.cas_typed.proofs.Statements.{walk_list-right}
use Rattle.cas_typed.proofs.Typed_statements.{no_fault, goes_on, AreStmts-walk}

-- faults that aren't

both_parts : (o p : Option Fault) → sooner o p ≡ None → (o ≡ None) × (p ≡ None)
both_parts (Some f) p h = cc
both_parts None p h = (refl, h)

neither : {o p : Option Fault} → o ≡ None → p ≡ None → sooner o p ≡ None
neither h h' = λ i. sooner (h i) (h' i)

none_found : (code : TypeCode) (o : Option Ident) → at_found o (at_name code) ≡ None → o ≡ None
none_found code None h = refl
none_found code (Some x) h = cc

is_false : (c : Bool) (f : Fault) → (if c then Some f else None) ≡ None → c ≡ false
is_false true f h = cc
is_false false f h = refl

is_true : (c : Bool) (f : Fault) → (if c then None else Some f) ≡ None → c ≡ true
is_true true f h = refl
is_true false f h = cc

-- a limit is kept

at_most : (m n : ℕ) → nat_lt m n ≡ false → n ≤ m
at_most m n h = grind arith

not_above : (m n : ℕ) → n ≤ m → nat_lt m n ≡ false
not_above m n h = grind arith

within_limit : (most : ℕ) (p : Place) (what : TypeCount) (n : ℕ) → above most p what n ≡ None → n ≤ most
within_limit most p what n h = at_most most n (is_false (nat_lt most n) (limit p what (min n (2 ^ 64 - 1))) h)

kept_limit : (most : ℕ) (p : Place) (what : TypeCount) (n : ℕ) → n ≤ most → above most p what n ≡ None
kept_limit most p what n h = ap (λ c. if c then Some (limit p what (min n (2 ^ 64 - 1))) else None) (not_above most n h)

le_true : (m n : ℕ) → nat_le m n ≡ true → m ≤ n
le_true m n h = grind arith

true_le : (m n : ℕ) → m ≤ n → nat_le m n ≡ true
true_le m n h = grind arith

-- names in `holds`

both_true : (a b : Bool) → (a && b) ≡ true → (a ≡ true) × (b ≡ true)
both_true true b h = (refl, h)
both_true false b h = cc

named_lock : (n : ℕ) (ds : List Decl) (name : List ℕ) → means_lock (item_named n ds name) ≡ true →
    list_any (is_named name) ds ≡ true
named_lock n [] name h = cc
named_lock n (d ∷ ds) name h = test (is_named name d) h (named_lock (n + 1) ds name)
  where
    test : (c : Bool) → means_lock (if c then item n d.form else item_named (n + 1) ds name) ≡ true →
        (means_lock (item_named (n + 1) ds name) ≡ true → list_any (is_named name) ds ≡ true) →
        (c || list_any (is_named name) ds) ≡ true
    test true h next = refl
    test false h next = next h

all_declared : (ds : List Decl) (xs : List Ident) → are_locks ds xs ≡ true → undeclared_in ds xs ≡ None
all_declared ds [] h = refl
all_declared ds (x ∷ xs) h =
    let parts = both_true (means_lock (item_named 0 ds x.name)) (are_locks ds xs) h in
    ap (λ c. if c then undeclared_in ds xs else Some x) (named_lock 0 ds x.name parts.0) ∙ all_declared ds xs parts.1

-- items

fault_free : (before : List Decl) (a : ItemTree) → item_fault before a ≡ None → IsItem before a
fault_free before a h0 =
    let h1 = both_parts _ _ h0 in
    let h2 = both_parts _ _ h1.1 in
    let h3 = both_parts _ _ h2.1 in
    let h4 = both_parts _ _ h3.1 in
    let h5 = both_parts _ _ h4.1 in
    let h6 = both_parts _ _ h5.1 in
    let h7 = both_parts _ _ h6.1 in
    let h8 = both_parts _ _ h7.1 in
    let h9 = both_parts _ _ h8.1 in
    let h10 = both_parts _ _ h9.1 in
    record {
      locks = is_true (are_locks before (held_names a)) (at_item a) h8.0;
      held_once = none_found T2 (repeated [] (held_names a)) h4.0;
      parameters_once = none_found T2 (repeated [] (parameter_names a)) h3.0;
      defined_once = is_false (is_defined_again before (decl_of a)) (fault T2 (place_of a) (Some (decl_of a).name))
          h2.0;
      agrees = is_true (agrees_with (item_named 0 before (decl_of a).name) (decl_of a).form) (at_item a) h5.0;
      not_empty = is_true (has_element (variable_type (decl_of a).form)) (at_item a) h6.0;
      values = le_true (length (values_of a)) (elements_of (variable_type (decl_of a).form))
          (is_true _ (at_item a) h7.0);
      parameters = within_limit most_parameters (place_of a) Parameters (length (parameter_types (decl_of a).form))
          h9.0;
      functions = within_limit most_functions (place_of a) Functions (function_count (before ++ decl_of a ∷ [])) h10.0;
      words = within_limit most_words (place_of a) Words (word_count (before ++ decl_of a ∷ [])) h10.1;
    }

good : (before : List Decl) (a : ItemTree) → IsItem before a → item_fault before a ≡ None
good before a h =
    neither (ap (λ o. at_found o (at_name T1)) (all_declared before (held_names a) h.locks))
    (neither (ap (λ c. if c then Some (fault T2 (place_of a) (Some (decl_of a).name)) else None) h.defined_once)
    (neither (ap (λ o. at_found o (at_name T2)) h.parameters_once)
    (neither (ap (λ o. at_found o (at_name T2)) h.held_once)
    (neither (ap (λ c. if c then None else Some (at_item a)) h.agrees)
    (neither (ap (λ c. if c then None else Some (at_item a)) h.not_empty)
    (neither (ap (λ c. if c then None else Some (at_item a))
    (true_le (length (values_of a)) (elements_of (variable_type (decl_of a).form)) h.values))
    (neither (ap (λ c. if c then None else Some (at_item a)) h.locks)
    (neither (kept_limit most_parameters (place_of a) Parameters (length (parameter_types (decl_of a).form))
    h.parameters)
    (neither (kept_limit most_functions (place_of a) Functions (function_count (before ++ decl_of a ∷ [])) h.functions)
    (kept_limit most_words (place_of a) Words (word_count (before ++ decl_of a ∷ [])) h.words))))))))))

-- functions

-- the faults of a function's counts
abbrev counts_fault : FunTree → Option Fault
counts_fault f = sooner (above most_cells f.place Cells (cells_of f)) (above most_nodes f.place Nodes (nodes_of f))

-- a function with this body
abbrev with_body : List Decl → FunTree → TypedStmtList → TypedFunTree
with_body before f body = record { item = length before; locals = locals_in body 0 0 (local_types f); body = body }

function_right : (before : List Decl) (f : FunTree) → Holds (IsFunction before f) (walk_function before f)
function_right before f =
    Holds-then (AreStmts (return_type f.decl.form) false (scope_in before f) f.body) (IsFunction before f)
    (walk_list (return_type f.decl.form) false (scope_in before f) f.body)
    (λ body. unless (counts_fault f) (Ok (with_body before f body)))
    (walk_list-right (return_type f.decl.form) false (scope_in before f) f.body)
    (λ body h. Holds-unless_none (IsFunction before f) (counts_fault f) (Ok (with_body before f body)) (λ none.
    let parts = both_parts (above most_cells f.place Cells (cells_of f)) (above most_nodes f.place Nodes (nodes_of f))
    none in
    record {
      item = refl;
      locals = refl;
      body = h;
      cells = within_limit most_cells f.place Cells (cells_of f) parts.0;
      nodes = within_limit most_nodes f.place Nodes (nodes_of f) parts.1;
    }))

function_typed : (before : List Decl) (f : FunTree) (r : TypedFunTree) → IsFunction before f r →
    walk_function before f ≡ Ok r
function_typed before f r h =
    goes_on (λ body. unless (counts_fault f) (Ok (with_body before f body))) (AreStmts-walk h.body)
    ∙ no_fault (Ok (with_body before f r.body)) (neither (kept_limit most_cells f.place Cells (cells_of f) h.cells)
    (kept_limit most_nodes f.place Nodes (nodes_of f) h.nodes))
    ∙ sym (λ i. Ok (record { item = h.item i; locals = h.locals i; body = r.body }))

-- modules

items_right : (before : List Decl) (items : List ItemTree) → Holds (AreItems before items) (walk_items before items)
items_right before [] = no_item before
items_right before (global d vs p ∷ rest) =
    Holds-unless_none (AreItems before (global d vs p ∷ rest)) (item_fault before (global d vs p))
    (walk_items (before ++ d ∷ []) rest) (λ none.
    Holds-map (AreItems (before ++ d ∷ []) rest) (AreItems before (global d vs p ∷ rest))
    (walk_items (before ++ d ∷ []) rest)
    (λ rs h. a_global before d vs p rest rs (fault_free before (global d vs p) none) h)
    (items_right (before ++ d ∷ []) rest))
items_right before (prototype d hs p ∷ rest) =
    Holds-unless_none (AreItems before (prototype d hs p ∷ rest)) (item_fault before (prototype d hs p))
    (walk_items (before ++ d ∷ []) rest) (λ none.
    Holds-map (AreItems (before ++ d ∷ []) rest) (AreItems before (prototype d hs p ∷ rest))
    (walk_items (before ++ d ∷ []) rest)
    (λ rs h. a_prototype before d hs p rest rs (fault_free before (prototype d hs p) none) h)
    (items_right (before ++ d ∷ []) rest))
items_right before (define f ∷ rest) =
    Holds-unless_none (AreItems before (define f ∷ rest)) (item_fault before (define f))
    (then_ (walk_function before f) (λ r. then_ (walk_items (before ++ f.decl ∷ []) rest) (λ rs. Ok (r ∷ rs))))
    (λ none.
    Holds-then (IsFunction before f) (AreItems before (define f ∷ rest)) (walk_function before f)
    (λ r. then_ (walk_items (before ++ f.decl ∷ []) rest) (λ rs. Ok (r ∷ rs)))
    (function_right before f) (λ r hr.
    Holds-then (AreItems (before ++ f.decl ∷ []) rest) (AreItems before (define f ∷ rest))
    (walk_items (before ++ f.decl ∷ []) rest) (λ rs. Ok (r ∷ rs))
    (items_right (before ++ f.decl ∷ []) rest) (λ rs hs. a_function before f rest r rs
    (fault_free before (define f) none) hr hs)))

items_typed : {before : List Decl} {items : List ItemTree} {rs : List TypedFunTree} → AreItems before items rs →
    walk_items before items ≡ Ok rs
items_typed (no_item before) = refl
items_typed (a_global before d vs p rest rs h hs) = no_fault (walk_items (before ++ d ∷ []) rest)
    (good before (global d vs p) h) ∙ items_typed hs
items_typed (a_prototype before d ps p rest rs h hs) =
    no_fault (walk_items (before ++ d ∷ []) rest) (good before (prototype d ps p) h) ∙ items_typed hs
items_typed (a_function before f rest r rs h hr hs) =
    no_fault (then_ (walk_function before f) (λ r. then_ (walk_items (before ++ f.decl ∷ []) rest) (λ rs. Ok (r ∷ rs))))
    (good before (define f) h)
    ∙ goes_on (λ r. then_ (walk_items (before ++ f.decl ∷ []) rest) (λ rs. Ok (r ∷ rs))) (function_typed before f r hr)
    ∙ goes_on (λ rs. Ok (r ∷ rs)) (items_typed hs)

module_right : (m : ModuleTree) → Holds (IsTyped m) (walk_module m)
module_right m =
    Holds-then (AreItems [] m.items) (IsTyped m) (walk_items [] m.items)
    (λ rs. Ok (record { module_tree = filled_module m; functions = rs }))
    (items_right [] m.items) (λ rs h. record { module_tree = refl; functions = h })

-- what the walk answers is typed
pub walk_module-typed : (m : ModuleTree) (r : TypedModuleTree) → walk_module m ≡ Ok r → IsTyped m r
walk_module-typed m r h = subst (Holds (IsTyped m)) h (module_right m)

-- what is typed is what the walk answers
pub IsTyped-walk : (m : ModuleTree) (r : TypedModuleTree) → IsTyped m r → walk_module m ≡ Ok r
IsTyped-walk m r h =
    goes_on (λ rs. Ok (record { module_tree = filled_module m; functions = rs })) (items_typed h.functions)
    ∙ sym (λ i. Ok (record { module_tree = h.module_tree i; functions = r.functions }))

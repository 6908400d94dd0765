-- The walk, computed on small modules.
use Rattle.std.proofs.Common.{◌≡◌, ℕ, zero, suc, List, [], ◌∷◌, Some, None, Result, Ok, Err, refl, arith, lit<}
use Rattle.std.specs.Prelude.{codes, Bool, true, false, map, replicate, length}
use Rattle.cas_base.specs.declared.decl.Form.TheVariants.{Lock, Shared, Table, Function}
use Rattle.cas_base.specs.Kind.{is_of_kind}
use Rattle.cas_base.specs.declared.kind.Kind.TheVariants.{I32, U8}
use Rattle.cas_base.specs.declared.kind.Ty.{Ty}
use Rattle.cas_base.specs.declared.kind.Ty.TheVariants.{Void, Int, Ptr, Array}
use Rattle.cas_base.specs.declared.place.Place.{Place}
use Rattle.cas_syntax.specs.declared.tree.Ident.{Ident}
use Rattle.cas_syntax.specs.Tree.{literal, name, address, to_name, to_index, nothing, value, skip, declare, assign, block, if_, for_, break_, absent, present, StmtList, no_more, one_more, ItemTree, global, prototype, define}
use Rattle.cas_syntax.specs.declared.tree.BinaryOperator.TheVariants.{Add}
use Rattle.cas_typed.specs.declared.fault.TypeCode.{TypeCode}
use Rattle.cas_typed.specs.declared.fault.TypeCode.TheVariants.{T1, T2, T3, T5, T6}
use Rattle.cas_typed.specs.declared.fault.TypeCount.TheVariants.{Parameters, Words, Cells}
use Rattle.cas_typed.specs.Bodies.{bodies_of}
use Rattle.cas_typed.specs.Formed.{ExprIsFormed, AreOfKind, IsFilled}
use Rattle.cas_typed.specs.Counts.{nodes_of_stmts}
use Rattle.cas_typed.specs.Faults.{Fault, fault, limit}
use Rattle.cas_typed.specs.Modules.{filled_item}
use Rattle.cas_typed.specs.Resolved.{TypedModuleTree}
use Rattle.cas_typed.specs.Walk.{walk_module}

abbrev at : ℕ → ℕ → Place
at line col = record { line = line; col = col }

abbrev named : List ℕ → Place → Ident
named x p = record { name = x; place = p }

-- void w(int me) { .. } on this line
abbrev thread : ℕ → StmtList → ItemTree
thread line body = define (record {
  decl = record { name = codes "w"; form = Function Void (Int I32 ∷ []) []; defined = true };
  params = named (codes "me") (at line 12) ∷ [];
  held = [];
  body = body;
  place = at line 6;
  closing = at line 60;
})

abbrev told : List ItemTree → Result TypedModuleTree Fault
told items = walk_module (record { items = items })

-- void w(int me) { x = 1; }
undeclared_row : told
    (thread 1 (one_more (assign (at 1 18) (to_name (named (codes "x") (at 1 18))) None (literal 1 I32)) no_more) ∷ [])
    ≡ Err (fault T1 (at 1 18) (Some (codes "x")))
undeclared_row = refl

abbrev lock_L : ItemTree
lock_L = global (record { name = codes "L"; form = Lock; defined = true }) [] (at 1 6)

-- lock L; shared(L) int a[65536];
words_row : told
    (lock_L ∷ global (record { name = codes "a"; form = Shared (Array I32 65536) (codes "L"); defined = true }) []
    (at 1 23) ∷ []) ≡ Err (limit (at 1 23) Words 65537)
words_row = refl

-- lock L; shared(L) int g; void w(int me) { int *p; p = &g; }
address_row : told (lock_L ∷ global (record { name = codes "g"; form = Shared (Int I32) (codes "L"); defined = true })
    [] (at 1 23) ∷ thread 2 (one_more (declare (at 2 23) (Ptr I32) (named (codes "p") (at 2 23)) nothing)
    (one_more (assign (at 2 26) (to_name (named (codes "p") (at 2 26))) None (address (named (codes "g") (at 2 31))))
    no_more)) ∷ []) ≡ Err (fault T6 (at 2 31) (Some (codes "g")))
address_row = refl

-- const int t[1]; void w(int me) { t[0] = 1; }
table_row : told (global (record { name = codes "t"; form = Table (Array I32 1); defined = true }) []
    (at 1 11) ∷ thread 2
    (one_more (assign (at 2 18) (to_index (named (codes "t") (at 2 18)) (literal 0 I32)) None (literal 1 I32)) no_more)
    ∷ []) ≡ Err (fault T5 (at 2 18) None)
table_row = refl

-- void w(int me) { int a[4096]; }
cells_row : told (thread 1 (one_more (declare (at 1 22) (Array I32 4096) (named (codes "a") (at 1 22)) nothing) no_more)
    ∷ []) ≡ Err (limit (at 1 6) Cells 4097)
cells_row = refl

-- items: a function without a body, with these parameters and `holds`; one with an empty body; a table

abbrev prototype_of : List ℕ → Ty → List Ty → List (List ℕ) → ItemTree
prototype_of x ret tys holds = prototype (record { name = x; form = Function ret tys holds; defined = false })
    (map (λ h. at 1 30) holds) (at 1 9)

abbrev function_of : List ℕ → List Ty → List (List ℕ) → List Ident → ItemTree
function_of x tys holds xs = define (record {
  decl = record { name = x; form = Function Void tys holds; defined = true };
  params = xs;
  held = map (λ h. at 1 30) holds;
  body = no_more;
  place = at 1 9;
  closing = at 1 60;
})

abbrev table_of : List ℕ → Bool → ℕ → List ℕ → ItemTree
table_of x defined len values = global (record { name = x; form = Table (Array I32 len); defined = defined }) values
    (at 1 9)

-- what is answered: a fault, or how many functions are resolved
abbrev counted : Result TypedModuleTree Fault → Result ℕ Fault
counted (Ok r) = Ok (length r.functions)
counted (Err f) = Err f

abbrev answer : List ItemTree → Result ℕ Fault
answer items = counted (told items)

abbrev parameter_of : List ℕ → Ident
parameter_of x = named x (at 1 20)

abbrev refused : TypeCode → ℕ → List ℕ → Result ℕ Fault
refused code col x = Err (fault code (at 1 col) (Some x))

abbrev shared_g : ItemTree
shared_g = global (record { name = codes "g"; form = Shared (Int I32) (codes "L"); defined = true }) [] (at 1 9)

-- void f(void) holds(f);   lock L; void f(void) holds(L, L);   lock L; shared(L) int g; void f(void) holds(g);
-- lock L; void f(void) holds(L); void f(void) holds(L) {}
holds_rows :
    map answer ((prototype_of (codes "f") Void [] (codes "f" ∷ []) ∷ []) ∷
    (lock_L ∷ prototype_of (codes "f") Void [] (codes "L" ∷ codes "L" ∷ []) ∷ [])
    ∷ (lock_L ∷ shared_g ∷ prototype_of (codes "f") Void [] (codes "g" ∷ []) ∷ [])
    ∷ (lock_L ∷ prototype_of (codes "f") Void [] (codes "L" ∷ []) ∷ function_of (codes "f") [] (codes "L" ∷ []) [] ∷ [])
    ∷ [])
    ≡ refused T1 30 (codes "f") ∷ refused T2 30 (codes "L") ∷ refused T3 9 (codes "f") ∷ Ok 1 ∷ []
holds_rows = refl

-- void f(void) {} void f(void) {}   void f(int a, int a) {}   lock L; void L(void) {}   void f(int f) {} void
-- f(void) {} void f(void); void f(void);   int f(void); void f(void) {}   int f(void); void f(void) {} with
-- `holds(f)` in the second
twice_rows :
    map answer ((function_of (codes "f") [] [] [] ∷ function_of (codes "f") [] [] [] ∷ [])
    ∷ (function_of (codes "f") (Int I32 ∷ Int I32 ∷ []) [] (parameter_of (codes "a") ∷ parameter_of (codes "a") ∷ [])
    ∷ [])
    ∷ (lock_L ∷ function_of (codes "L") [] [] [] ∷ []) ∷
    (function_of (codes "f") (Int I32 ∷ []) [] (parameter_of (codes "f") ∷ []) ∷ [])
    ∷ (function_of (codes "f") [] [] [] ∷ prototype_of (codes "f") Void [] [] ∷ prototype_of
    (codes "f") Void [] [] ∷ [])
    ∷ (prototype_of (codes "f") (Int I32) [] [] ∷ function_of (codes "f") [] [] [] ∷ [])
    ∷ (prototype_of (codes "f") (Int I32) [] [] ∷ function_of (codes "f") [] (codes "f" ∷ []) [] ∷ []) ∷ [])
    ≡ refused T2 9 (codes "f") ∷ refused T2 20 (codes "a") ∷ refused T2 9 (codes "L") ∷ Ok 1 ∷ Ok 1 ∷ refused T3 9
    (codes "f") ∷ refused T3 9 (codes "f") ∷ []
twice_rows = refl

-- const int t[0];   const int t[2] = {1, 2, 3};   const int t[2] = {1};   extern const int t[2]; const int t[3];
-- extern const int t[2]; const int t[2]; extern const int t[65537];   const int t[65537];
table_rows :
    map answer ((table_of (codes "t") true 0 [] ∷ []) ∷ (table_of (codes "t") true 2 (1 ∷ 2 ∷ 3 ∷ []) ∷ []) ∷
    (table_of (codes "t") true 2 (1 ∷ []) ∷ [])
    ∷ (table_of (codes "t") false 2 [] ∷ table_of (codes "t") true 3 [] ∷ []) ∷
    (table_of (codes "t") false 2 [] ∷ table_of (codes "t") true 2 [] ∷ [])
    ∷ (table_of (codes "t") false 65537 [] ∷ []) ∷ (table_of (codes "t") true 65537 [] ∷ []) ∷ [])
    ≡ refused T3 9 (codes "t") ∷ refused T3 9 (codes "t") ∷ Ok 0 ∷ refused T3 9 (codes "t") ∷ Ok 0 ∷ Ok 0 ∷ Err
    (limit (at 1 9) Words 65537) ∷ []
table_rows = refl

-- what zeros are added: const int t[3] = {7};   extern const int t[3];
zeros_row : map filled_item (table_of (codes "t") true 3 (7 ∷ []) ∷ table_of (codes "t") false 3 [] ∷ []) ≡ table_of
    (codes "t") true 3 (7 ∷ 0 ∷ 0 ∷ []) ∷ table_of (codes "t") false 3 [] ∷ []
zeros_row = refl

-- functions f with no parameters, under so many names
abbrev functions : ℕ → List ItemTree
functions zero = []
functions (suc n) = function_of (replicate (suc n) 97) [] [] [] ∷ functions n

-- 16 and 17 parameters; 4 functions
limit_rows :
    map answer ((prototype_of (codes "f") Void (replicate 16 (Int I32)) [] ∷ []) ∷
    (prototype_of (codes "f") Void (replicate 17 (Int I32)) [] ∷ []) ∷ functions 4 ∷ [])
    ≡ Ok 0 ∷ Err (limit (at 1 9) Parameters 17) ∷ Ok 4 ∷ []
limit_rows = refl

-- the nodes of { int x = 1; x++; if (x) { } else ; for (;;) break; }
nodes_row :
    nodes_of_stmts (one_more (declare (at 1 1) (Int I32) (named (codes "x") (at 1 1)) (value (literal 1 I32)))
    (one_more (assign (at 1 1) (to_name (named (codes "x") (at 1 1))) (Some Add) (literal 1 I32))
    (one_more (if_ (at 1 1) (name (named (codes "x") (at 1 1))) (block (at 1 1) no_more) (present (skip (at 1 1))))
    (one_more (for_ (at 1 1) absent None absent (break_ (at 1 1))) no_more)))) ≡ 10
nodes_row = refl

-- locks and prototypes have no body
abbrev two_bodies : List ItemTree
two_bodies = lock_L ∷ thread 2 no_more ∷ prototype_of (codes "f") Void [] [] ∷ thread 4
    (one_more (break_ (at 4 18)) no_more) ∷ []

bodies_row : map (λ f. f.body) (bodies_of two_bodies) ≡ no_more ∷ one_more (break_ (at 4 18)) no_more ∷ []
bodies_row = refl

-- 4294967296 is no word, and 300 no value of U8
literal_row : ExprIsFormed (literal 4294967296 I32) → ⊥
literal_row h = omega arith

value_row : AreOfKind U8 (7 ∷ 300 ∷ []) → ⊥
value_row h = let e : is_of_kind 300 U8 ≡ true = h 1 0 (lit< tt) in cc

-- const unsigned char t[3] = { 7 };
unfilled_row : IsFilled
    (record {
      items = global (record { name = codes "t"; form = Table (Array U8 3); defined = true }) (7 ∷ [])
          (at 1 21) ∷ [];
    }) → ⊥
unfilled_row h = let e : length {A = ℕ} (7 ∷ []) ≡ 3 = h 0 _ (7 ∷ []) (at 1 21) refl refl in omega arith

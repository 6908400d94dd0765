-- What a formed module is resolved to has words as literals, and is formed with its values filled up.
use Rattle.std.proofs.Common.{◌≡◌, if◌then◌else◌, ◌⊎◌, inl, ℕ, ◌-◌, Bool, true, false, IsTrue, List, [], ◌∷◌, ◌++◌, length, map, replicate, Option, Some, None, refl, sym, ap, subst, ◌∙◌, lit<}
use Rattle.std.specs.List.{AllByRecursion}
use Rattle.std.proofs.lemmas.List.Elements.{All-from_recursion, All-append, All-replicate}
use Rattle.cas_base.specs.Decl.{is_function, functions_of}
use Rattle.cas_base.specs.Kind.{is_of_kind}
use Rattle.cas_base.specs.declared.decl.Decl.{Decl}
use Rattle.cas_base.specs.declared.decl.Form.{Form}
use Rattle.cas_base.specs.declared.decl.Form.TheVariants.{Lock, Shared, Table, Function}
use Rattle.cas_base.specs.declared.kind.Kind.{Kind}
use Rattle.cas_base.specs.declared.kind.Kind.TheVariants.{I8, U8, I16, U16, I32, U32}
use Rattle.cas_base.specs.declared.kind.Ty.{Ty}
use Rattle.cas_base.specs.declared.kind.Ty.TheVariants.{Void, Int, Ptr, Array}
use Rattle.cas_base.specs.declared.place.Place.{Place}
use Rattle.cas_syntax.specs.declared.tree.BinaryOperator.{BinaryOperator}
use Rattle.cas_syntax.specs.declared.tree.Ident.{Ident}
use Rattle.cas_syntax.specs.Tree.{ExprTree, TargetTree, to_name, to_index, to_deref, StmtTree, StmtOption, StmtList, ItemTree, global, prototype, define, ModuleTree}
use Rattle.cas_typed.specs.Bodies.{bodies_of}
use Rattle.cas_typed.specs.Formed.{ExprIsFormed, ExprsAreFormed, OptionalIsFormed, TargetIsFormed, StmtIsFormed, PartIsFormed, BodyIsFormed, AreOfKind, IsGlobal, IsFunctionForm, ItemsAreFormed, IsFormed}
use Rattle.cas_typed.specs.Literals.{HasWords, TargetHasWords, AllHaveWords, OptionHasWords, StatementHasWords, PartHasWords, BodyHasWords, ModuleHasWords}
use Rattle.cas_typed.specs.Modules.{decl_of, AreItems, no_item, a_global, a_prototype, a_function, elements_of, filled, filled_item, IsTyped}
use Rattle.cas_typed.specs.Resolved.{TypedExprTree, TypedTargetTree, TypedStmtTree, TypedStmtOption, TypedStmtList, TypedFunTree, TypedModuleTree}
use Rattle.cas_typed.specs.Scopes.{Scope}
use Rattle.cas_typed.specs.Types.{no_value, variable_type}
use Rattle.cas_typed.specs.Typing as y
use Rattle.cas_typed.specs.Typing.{HasType, Tests, Gives, GivesEach, Writes, Assigns, assigns, assigned, cell_of, Calls, calls, TestsOptional, IsStmt, IsPart, AreStmts}

mutual
  type_words : {s : Scope} {a : ExprTree} {e : TypedExprTree} {ty : Ty} → ExprIsFormed a → HasType s a e ty → HasWords e
  type_words w (y.a_literal n k) = w
  type_words w (y.a_local x n k is) = tt
  type_words w (y.a_local_pointer x n k is) = tt
  type_words w (y.a_global x g form k is of) = tt
  type_words w (y.arithmetic op a b a' b' j k is h h') = (type_words w.0 h, type_words w.1 h')
  type_words w (y.pointer_plus a b p e j k h h') = (type_words w.0 h, type_words w.1 h')
  type_words w (y.plus_pointer a b e p j k h h') = (type_words w.0 h, type_words w.1 h')
  type_words w (y.pointer_minus a b p e j k h h') = (type_words w.0 h, type_words w.1 h')
  type_words w (y.pointer_difference a b p q k h h') = (type_words w.0 h, type_words w.1 h')
  type_words w (y.shift op a b a' b' j k is h h') = (type_words w.0 h, type_words w.1 h')
  type_words w (y.equal_integers op a b a' b' j k is h h') = (type_words w.0 h, type_words w.1 h')
  type_words w (y.equal_pointers op a b p q k is h h') = (type_words w.0 h, type_words w.1 h')
  type_words w (y.pointer_and_null op a b p k is h null) = (type_words w.0 h, tt)
  type_words w (y.null_and_pointer op a b q k is null h) = (tt, type_words w.1 h)
  type_words w (y.ordered_integers op a b a' b' j k is h h') = (type_words w.0 h, type_words w.1 h')
  type_words w (y.ordered_pointers op a b p q k is h h') = (type_words w.0 h, type_words w.1 h')
  type_words w (y.both a b c d h h') = (test_words w.0 h, test_words w.1 h')
  type_words w (y.either a b c d h h') = (test_words w.0 h, test_words w.1 h')
  type_words w (y.not_so a c h) = test_words w h
  type_words w (y.choice c a b d a' b' j k hc h h') = (test_words w.0 hc, type_words w.1 h, type_words w.2 h')
  type_words w (y.choice_of_pointers c a b d p q k hc h h') = (test_words w.0 hc, type_words w.1 h, type_words w.2 h')
  type_words w (y.choice_or_null c a b d p k hc h null) = (test_words w.0 hc, type_words w.1 h, tt)
  type_words w (y.null_or_choice c a b d q k hc null h) = (test_words w.0 hc, tt, type_words w.2 h)
  type_words w (y.signed op a a' k is h) = type_words w h
  type_words w (y.converted k a a' j h) = type_words w h
  type_words w (y.cell_behind a p k h) = type_words w h
  type_words w (y.element_behind x a p e j k h h') = (type_words tt h, type_words w h')
  type_words w (y.element_of_global x a e g n form j k is of h) = type_words w h
  type_words w (y.pointer_to_local x n k is) = tt
  type_words w (y.pointer_to_element x a p e j k h h') = (type_words tt h, type_words w h')
  type_words w (y.first_element x n len k is) = tt

  test_words : {s : Scope} {a : ExprTree} {c : TypedExprTree} → ExprIsFormed a → Tests s a c → HasWords c
  test_words w (y.an_integer_test a e k h) = type_words w h
  test_words w (y.a_pointer_test a p k h) = (type_words w h, tt)

value_words : {s : Scope} {a : ExprTree} {ty : Ty} {e : TypedExprTree} → ExprIsFormed a → Gives s a ty e → HasWords e
value_words w (y.an_integer a e j k h) = type_words w h
value_words w (y.a_pointer a p k h) = type_words w h
value_words w (y.a_null a k null) = tt

values_words : {s : Scope} {args : List ExprTree} {tys : List Ty} {es : List TypedExprTree} → ExprsAreFormed args →
    GivesEach s args tys es → AllHaveWords es
values_words w y.no_argument = tt
values_words w (y.an_argument a args ty tys e es h hs) = (value_words w.0 h, values_words w.1 hs)

target_words : {s : Scope} {target : TargetTree} {target' : TypedTargetTree} {ty : Ty} → TargetIsFormed target →
    Writes s target target' ty → TargetHasWords target'
target_words w (y.writes_local x n k is) = tt
target_words w (y.writes_pointer x n k is) = tt
target_words w (y.writes_shared x g k guard is) = tt
target_words w (y.writes_element_behind x a p e j k h h') = (type_words tt h, type_words w h')
target_words w (y.writes_shared_element x a e g n j k guard is h) = type_words w h
target_words w (y.writes_behind a p k h) = type_words w h

cell_formed : (target : TargetTree) → TargetIsFormed target → ExprIsFormed (cell_of target)
cell_formed (to_name x) w = tt
cell_formed (to_index x a) w = w
cell_formed (to_deref a) w = w

assigned_formed : (target : TargetTree) (op : Option BinaryOperator) (a : ExprTree) → TargetIsFormed target →
    ExprIsFormed a → ExprIsFormed (assigned target op a)
assigned_formed target None a w w' = w'
assigned_formed target (Some op) a w w' = (cell_formed target w, w')

assign_words : {s : Scope} {p : Place} {target : TargetTree} {op : Option BinaryOperator} {a : ExprTree}
    {r : TypedStmtTree} → TargetIsFormed target → ExprIsFormed a → Assigns s p target op a r → StatementHasWords r
assign_words w w' (assigns p target op a target' ty e h given) =
    (target_words w h, value_words (assigned_formed target op a w w') given)

call_words : {s : Scope} {p : Place} {result : Option Ident} {f : Ident} {args : List ExprTree} {r : TypedStmtTree} →
    ExprsAreFormed args → Calls s p result f args r → StatementHasWords r
call_words w (calls p result f args g gives tys holds kept es is keeps each) = values_words w each

optional_words : {s : Scope} {c : Option ExprTree} {c' : Option TypedExprTree} → OptionalIsFormed c →
    TestsOptional s c c' → OptionHasWords c'
optional_words w y.no_condition = tt
optional_words w (y.a_condition a c h) = test_words w h

return_words : (ret : Ty) → OptionHasWords (no_value ret)
return_words Void = tt
return_words (Int k) = lit< tt
return_words (Ptr k) = tt
return_words (Array k n) = tt

mutual
  stmt_words : {ret : Ty} {l : Bool} {s : Scope} {a : StmtTree} {r : TypedStmtTree} → StmtIsFormed a →
      IsStmt ret l s a r → StatementHasWords r
  stmt_words w (y.skips l s p) = tt
  stmt_words w (y.declares l s p ty x fresh some) = tt
  stmt_words w (y.declares_value l s p ty x a r fresh h) = assign_words tt w.1 h
  stmt_words w (y.declares_result l s p ty x f args r fresh h) = call_words w.1 h
  stmt_words w (y.assignment l s p target op a r h) = assign_words w.0 w.1 h
  stmt_words w (y.call_of l s p result f args r h) = call_words w h
  stmt_words w (y.blocks l s p bs rs h) = body_words w h
  stmt_words w (y.ifs l s p c a o c' a' o' hc ha ho) = (test_words w.0 hc, stmt_words w.1 ha, part_words w.2 ho)
  stmt_words w (y.whiles l s p c a c' a' hc ha) = (test_words w.0 hc, stmt_words w.1 ha)
  stmt_words w (y.dos l s p a c a' c' ha hc) = (stmt_words w.0 ha, test_words w.1 hc)
  stmt_words w (y.fors l s p i c u a i' c' u' a' hi hc hu ha) =
      (part_words w.0 hi, optional_words w.1 hc, part_words w.2 hu, stmt_words w.3 ha)
  stmt_words w (y.breaks s p) = tt
  stmt_words w (y.continues s p) = tt
  stmt_words {ret = ret} w (y.returns l s p) = return_words ret
  stmt_words w (y.returns_value l s p a e h) = value_words w h
  stmt_words w (y.locks l s p x g is) = tt
  stmt_words w (y.unlocks l s p x g is) = tt
  stmt_words w (y.prints l s p a e h) = value_words w h

  part_words : {ret : Ty} {l : Bool} {s : Scope} {o : StmtOption} {r : TypedStmtOption} → PartIsFormed o →
      IsPart ret l s o r → PartHasWords r
  part_words w (y.no_part l s) = tt
  part_words w (y.a_part l s a a' h) = stmt_words w h

  body_words : {ret : Ty} {l : Bool} {s : Scope} {bs : StmtList} {rs : TypedStmtList} → BodyIsFormed bs →
      AreStmts ret l s bs rs → BodyHasWords rs
  body_words w (y.no_stmt l s) = tt
  body_words w (y.a_stmt l s a bs a' rs h hs) = (stmt_words w.0 h, body_words w.1 hs)

items_words : {before : List Decl} {items : List ItemTree} {rs : List TypedFunTree} → ItemsAreFormed items →
    AreItems before items rs → AllByRecursion (λ f. BodyHasWords f.body) rs
items_words w (no_item before) = tt
items_words w (a_global before d vs p rest rs h hs) = items_words w.1 hs
items_words w (a_prototype before d ps p rest rs h hs) = items_words w.1 hs
items_words w (a_function before f rest r rs h hr hs) = (body_words w.0.3 hr.body, items_words w.1 hs)

pub IsTyped-words : (m : ModuleTree) (r : TypedModuleTree) → IsFormed m → IsTyped m r → ModuleHasWords r
IsTyped-words m r w h = All-from_recursion (λ f. BodyHasWords f.body) r.functions (items_words w h.functions)

-- values that are filled up

zero_is_of_kind : (k : Kind) → IsTrue (is_of_kind 0 k)
zero_is_of_kind I8 = refl
zero_is_of_kind U8 = refl
zero_is_of_kind I16 = refl
zero_is_of_kind U16 = refl
zero_is_of_kind I32 = refl
zero_is_of_kind U32 = refl

zeros_of_kind : (k : Kind) (n : ℕ) (vs : List ℕ) → AreOfKind k vs → AreOfKind k (vs ++ replicate n 0)
zeros_of_kind k n vs w = All-append (λ v. IsTrue (is_of_kind v k)) vs (replicate n 0) w
    (All-replicate (λ v. IsTrue (is_of_kind v k)) n 0 (zero_is_of_kind k))

global_filled : (d : Decl) (n : ℕ) (vs : List ℕ) → IsGlobal d.form vs → (n ≡ elements_of (variable_type d.form)) →
    IsGlobal d.form (vs ++ replicate (n - length vs) 0)
global_filled d n vs w is = by_form d.form w is
  where
    by_form : (form : Form) → IsGlobal form vs → n ≡ elements_of (variable_type form) →
        IsGlobal form (vs ++ replicate (n - length vs) 0)
    by_form Lock w is = (λ i. w i ++ replicate {A = ℕ} (is i - length (w i)) 0)
    by_form (Shared Void guard) w is = absurd w
    by_form (Shared (Int k) guard) w is = zeros_of_kind k (n - length vs) vs w
    by_form (Shared (Ptr k) guard) w is = absurd w
    by_form (Shared (Array k len) guard) w is = (w.0, zeros_of_kind k (n - length vs) vs w.1)
    by_form (Table Void) w is = absurd w
    by_form (Table (Int k)) w is = zeros_of_kind k (n - length vs) vs w
    by_form (Table (Ptr k)) w is = absurd w
    by_form (Table (Array k len)) w is = (w.0, zeros_of_kind k (n - length vs) vs w.1)
    by_form (Function ret params holds) w is = absurd w

-- with or without a definition
values_filled : (d : Decl) (vs : List ℕ) → IsGlobal d.form vs → (d.defined ≡ true) ⊎ (vs ≡ []) →
    IsGlobal d.form (filled d vs) × ((d.defined ≡ true) ⊎ (filled d vs ≡ []))
values_filled d vs w when = by_test d.defined refl when
  where
    n : ℕ
    n = elements_of (variable_type d.form)

    by_test : (t : Bool) → d.defined ≡ t → (t ≡ true) ⊎ (vs ≡ []) →
        IsGlobal d.form (if t then vs ++ replicate (n - length vs) 0 else vs)
        × ((t ≡ true) ⊎ ((if t then vs ++ replicate (n - length vs) 0 else vs) ≡ []))
    by_test true e h = (global_filled d n vs w refl, inl refl)
    by_test false e h = (w, h)

items_filled : (items : List ItemTree) → ItemsAreFormed items → ItemsAreFormed (map filled_item items)
items_filled [] w = tt
items_filled (global d vs p ∷ items) w = (values_filled d vs w.0.0 w.0.1, items_filled items w.1)
items_filled (prototype d hs p ∷ items) w = (w.0, items_filled items w.1)
items_filled (define f ∷ items) w = (w.0, items_filled items w.1)

pub IsTyped-formed : (m : ModuleTree) (r : TypedModuleTree) → IsFormed m → IsTyped m r → IsFormed r.module_tree
IsTyped-formed m r w h = subst IsFormed (sym h.module_tree) (items_filled m.items w)

-- the functions that a formed module defines

not_defined : (d : Decl) (ds : List Decl) → d.defined ≡ false → functions_of (d ∷ ds) ≡ functions_of ds
not_defined d ds h = rw h refl

no_function : (d : Decl) (ds : List Decl) → is_function d.form ≡ false → functions_of (d ∷ ds) ≡ functions_of ds
no_function d ds h = by_test d.defined refl
  where
    by_test : (t : Bool) → d.defined ≡ t → functions_of (d ∷ ds) ≡ functions_of ds
    by_test true e = rw (e, h) refl
    by_test false e = not_defined d ds e

a_function_more : (d : Decl) (ds : List Decl) → is_function d.form ≡ true → d.defined ≡ true →
    functions_of (d ∷ ds) ≡ d ∷ functions_of ds
a_function_more d ds h e = rw (e, h) refl

global_is_no_function : (form : Form) (vs : List ℕ) → IsGlobal form vs → is_function form ≡ false
global_is_no_function Lock vs w = refl
global_is_no_function (Shared ty guard) vs w = refl
global_is_no_function (Table ty) vs w = refl
global_is_no_function (Function ret params holds) vs w = absurd w

is_a_function : (form : Form) → IsFunctionForm form → is_function form ≡ true
is_a_function Lock w = absurd w
is_a_function (Shared ty guard) w = absurd w
is_a_function (Table ty) w = absurd w
is_a_function (Function ret params holds) w = refl

items_define : (items : List ItemTree) → ItemsAreFormed items →
    functions_of (map decl_of items) ≡ map (λ f. f.decl) (bodies_of items)
items_define [] w = refl
items_define (global d vs p ∷ items) w = no_function d (map decl_of items) (global_is_no_function d.form vs w.0.0)
    ∙ items_define items w.1
items_define (prototype d hs p ∷ items) w = not_defined d (map decl_of items) w.0.1 ∙ items_define items w.1
items_define (define f ∷ items) w = a_function_more f.decl (map decl_of items) (is_a_function f.decl.form w.0.0) w.0.1
    ∙ ap (λ ds. f.decl ∷ ds) (items_define items w.1)

pub IsFormed-defines : (m : ModuleTree) → IsFormed m →
    functions_of (map decl_of m.items) ≡ map (λ f. f.decl) (bodies_of m.items)
IsFormed-defines m w = items_define m.items w

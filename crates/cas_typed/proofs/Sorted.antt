-- What typed modules are resolved to is well sorted.
use Rattle.std.proofs.Common.{◌≡◌, inl, inr, ℕ, ◌+◌, Bool, false, List, [], ◌∷◌, ◌++◌, length, map, Option, Some, refl, sym, ap, subst, ◌∙◌, append_assoc}
use Rattle.std.specs.Prelude.{⊤, slice_get}
use Rattle.std.specs.List.{AllByRecursion}
use Rattle.std.proofs.lemmas.List.{append-nil}
use Rattle.std.proofs.lemmas.List.Elements.{All-from_recursion}
use Rattle.cas_base.specs.Ty.{words_of_ty}
use Rattle.cas_base.specs.declared.decl.Decl.{Decl}
use Rattle.cas_base.specs.declared.decl.Form.TheVariants.{Lock, Shared, Function}
use Rattle.cas_base.specs.declared.kind.Ty.{Ty}
use Rattle.cas_base.specs.declared.kind.Ty.TheVariants.{Void, Int, Ptr, Array}
use Rattle.cas_base.specs.declared.place.Place.{Place}
use Rattle.cas_syntax.specs.declared.tree.Ident.{Ident}
use Rattle.cas_syntax.specs.declared.tree.BinaryOperator.{BinaryOperator}
use Rattle.cas_syntax.specs.Tree.{ExprTree, TargetTree, StmtTree, StmtOption, StmtList, FunTree, ItemTree, global, prototype, define, ModuleTree}
use Rattle.cas_typed.specs.declared.tree.Destination.{Destination}
use Rattle.cas_typed.specs.Counts.{parameter_types, local_types}
use Rattle.cas_typed.specs.Modules.{decl_of, return_type, locals_in, scope_in, IsFunction, AreItems, no_item, a_global, a_prototype, a_function, filled_item, IsTyped, decls_of}
use Rattle.cas_typed.specs.Resolved.{TypedExprTree, TypedTargetTree, TypedStmtTree, TypedStmtOption, TypedStmtList, TypedFunTree, TypedModuleTree}
use Rattle.cas_typed.specs.Scopes.{Scope, inside, locals_of, locals_of_option, locals_of_list, after_option, parameters}
use Rattle.cas_typed.specs.Sorts.{word, pointer, HasSort, IsValue, AreValues, IsCell, MayKeep, MayReturn, IsTest, IsSorted, IsSortedPart, AreSorted, IsSortedFunction, IsSortedModule}
use Rattle.cas_typed.specs.Types.{no_value, unequal}
use Rattle.cas_typed.specs.Typing as y
use Rattle.cas_typed.specs.Typing.{HasType, Tests, Gives, GivesEach, Writes, Assigns, assigns, Keeps, Calls, calls, TestsOptional, IsStmt, IsPart, AreStmts}
use Rattle.cas_typed.proofs.Sorted_scopes.{Segment, first_part, last_part, behind_front, one_local, AreBound, IsScoped, variable_there, item_there, inside_scoped, past_scoped, declaring_scoped, after_scoped, after_count, after_option_scoped, past_option_scoped, after_option_count, past_option_count}

-- an expression of this type
abbrev OfType : List Ty → List Decl → TypedExprTree → Ty → Type 0
OfType vs ds e (Int k) = HasSort vs ds e word
OfType vs ds e (Ptr k) = HasSort vs ds e (pointer k)
OfType vs ds e _ = ⊤

mutual
  type_sorted : {vs : List Ty} {ds : List Decl} {s : Scope} {a : ExprTree} {e : TypedExprTree} {ty : Ty} →
      IsScoped vs ds s → HasType s a e ty → OfType vs ds e ty
  type_sorted sc (y.a_literal n k) = tt
  type_sorted sc (y.a_local x n k is) = (k, variable_there x n (Int k) sc is)
  type_sorted sc (y.a_local_pointer x n k is) = variable_there x n (Ptr k) sc is
  type_sorted sc (y.a_global x g form k is of) = (k, (form, item_there x g form sc is, of))
  type_sorted sc (y.arithmetic op a b a' b' j k is h h') = (type_sorted sc h, type_sorted sc h')
  type_sorted sc (y.pointer_plus a b p e j k h h') = (type_sorted sc h, type_sorted sc h')
  type_sorted sc (y.plus_pointer a b e p j k h h') = (type_sorted sc h, type_sorted sc h')
  type_sorted sc (y.pointer_minus a b p e j k h h') = (type_sorted sc h, type_sorted sc h')
  type_sorted sc (y.pointer_difference a b p q k h h') = (k, type_sorted sc h, type_sorted sc h')
  type_sorted sc (y.shift op a b a' b' j k is h h') = (type_sorted sc h, type_sorted sc h')
  type_sorted sc (y.equal_integers op a b a' b' j k is h h') = (type_sorted sc h, type_sorted sc h')
  type_sorted sc (y.equal_pointers op a b p q k is h h') = (inl is, k, type_sorted sc h, type_sorted sc h')
  type_sorted sc (y.pointer_and_null op a b p k is h null) = (inl is, k, type_sorted sc h, tt)
  type_sorted sc (y.null_and_pointer op a b q k is null h) = (inl is, k, tt, type_sorted sc h)
  type_sorted sc (y.ordered_integers op a b a' b' j k is h h') = (type_sorted sc h, type_sorted sc h')
  type_sorted sc (y.ordered_pointers op a b p q k is h h') = (inr is, k, type_sorted sc h, type_sorted sc h')
  type_sorted sc (y.both a b c d h h') = (test_sorted sc h, test_sorted sc h')
  type_sorted sc (y.either a b c d h h') = (test_sorted sc h, test_sorted sc h')
  type_sorted sc (y.not_so a c h) = test_sorted sc h
  type_sorted sc (y.choice c a b d a' b' j k hc h h') = (test_sorted sc hc, type_sorted sc h, type_sorted sc h')
  type_sorted sc (y.choice_of_pointers c a b d p q k hc h h') = (test_sorted sc hc, type_sorted sc h, type_sorted sc h')
  type_sorted sc (y.choice_or_null c a b d p k hc h null) = (test_sorted sc hc, type_sorted sc h, tt)
  type_sorted sc (y.null_or_choice c a b d q k hc null h) = (test_sorted sc hc, tt, type_sorted sc h)
  type_sorted sc (y.signed op a a' k is h) = type_sorted sc h
  type_sorted sc (y.converted k a a' j h) = type_sorted sc h
  type_sorted sc (y.cell_behind a p k h) = type_sorted sc h
  type_sorted sc (y.element_behind x a p e j k h h') = (type_sorted sc h, type_sorted sc h')
  type_sorted sc (y.element_of_global x a e g n form j k is of h) =
      (k, n, (form, item_there x g form sc is, of), type_sorted sc h)
  type_sorted sc (y.pointer_to_local x n k is) = inl (variable_there x n (Int k) sc is)
  type_sorted sc (y.pointer_to_element x a p e j k h h') = (type_sorted sc h, type_sorted sc h')
  type_sorted sc (y.first_element x n len k is) = inr (len, variable_there x n (Array k len) sc is)

  test_sorted : {vs : List Ty} {ds : List Decl} {s : Scope} {a : ExprTree} {c : TypedExprTree} → IsScoped vs ds s →
      Tests s a c → HasSort vs ds c word
  test_sorted sc (y.an_integer_test a e k h) = type_sorted sc h
  test_sorted sc (y.a_pointer_test a p k h) = (inl unequal, k, type_sorted sc h, tt)

value_sorted : {vs : List Ty} {ds : List Decl} {s : Scope} {a : ExprTree} {ty : Ty} {e : TypedExprTree} →
    IsScoped vs ds s → Gives s a ty e → IsValue vs ds ty e
value_sorted sc (y.an_integer a e j k h) = (refl, type_sorted sc h)
value_sorted sc (y.a_pointer a p k h) = type_sorted sc h
value_sorted sc (y.a_null a k null) = tt

values_sorted : {vs : List Ty} {ds : List Decl} {s : Scope} {args : List ExprTree} {tys : List Ty}
    {es : List TypedExprTree} → IsScoped vs ds s → GivesEach s args tys es → AreValues vs ds tys es
values_sorted sc y.no_argument = tt
values_sorted sc (y.an_argument a args ty tys e es h hs) = (value_sorted sc h, values_sorted sc hs)

cell_sorted : {vs : List Ty} {ds : List Decl} {s : Scope} {target : TargetTree} {target' : TypedTargetTree} {ty : Ty} →
    IsScoped vs ds s → Writes s target target' ty → IsCell vs ds target' ty
cell_sorted sc (y.writes_local x n k is) = variable_there x n (Int k) sc is
cell_sorted sc (y.writes_pointer x n k is) = variable_there x n (Ptr k) sc is
cell_sorted sc (y.writes_shared x g k guard is) = (guard, item_there x g (Shared (Int k) guard) sc is)
cell_sorted sc (y.writes_element_behind x a p e j k h h') = (refl, (type_sorted sc h, type_sorted sc h'))
cell_sorted sc (y.writes_shared_element x a e g n j k guard is h) =
    (guard, n, item_there x g (Shared (Array k n) guard) sc is, type_sorted sc h)
cell_sorted sc (y.writes_behind a p k h) = (refl, type_sorted sc h)

kept_sorted : {vs : List Ty} {ds : List Decl} {s : Scope} {result : Option Ident} {ret : Ty}
    {kept : Option Destination} → IsScoped vs ds s → Keeps s result ret kept → MayKeep vs kept ret
kept_sorted sc (y.drops ret) = tt
kept_sorted sc (y.keeps_integer x n j k is) = (k, refl, variable_there x n (Int k) sc is)
kept_sorted sc (y.keeps_pointer x n k is) = (refl, variable_there x n (Ptr k) sc is)

assign_sorted : {vs : List Ty} {ds : List Decl} {s : Scope} {p : Place} {target : TargetTree}
    {op : Option BinaryOperator} {a : ExprTree} {r : TypedStmtTree} (ret : Ty) (l : Bool) → IsScoped vs ds s →
    Assigns s p target op a r → IsSorted vs ds ret l r
assign_sorted ret l sc (assigns p target op a target' ty e h given) = (ty, cell_sorted sc h, value_sorted sc given)

call_sorted : {vs : List Ty} {ds : List Decl} {s : Scope} {p : Place} {result : Option Ident} {f : Ident}
    {args : List ExprTree} {r : TypedStmtTree} (ret : Ty) (l : Bool) → IsScoped vs ds s → Calls s p result f args r →
    IsSorted vs ds ret l r
call_sorted ret l sc (calls p result f args g gives tys holds kept es is keeps each) =
    (gives, tys, holds, item_there f g (Function gives tys holds) sc is, kept_sorted sc keeps, values_sorted sc each)

optional_sorted : {vs : List Ty} {ds : List Decl} {s : Scope} {c : Option ExprTree} {c' : Option TypedExprTree} →
    IsScoped vs ds s → TestsOptional s c c' → IsTest vs ds c'
optional_sorted sc y.no_condition = tt
optional_sorted sc (y.a_condition a c h) = test_sorted sc h

return_sorted : (vs : List Ty) (ds : List Decl) (ret : Ty) → MayReturn vs ds ret (no_value ret)
return_sorted vs ds Void = refl
return_sorted vs ds (Int k) = (refl, tt)
return_sorted vs ds (Ptr k) = tt
return_sorted vs ds (Array k n) = refl

mutual
  stmt_sorted : {vs : List Ty} {ds : List Decl} {ret : Ty} {l : Bool} {s : Scope} {a : StmtTree} {r : TypedStmtTree} →
      IsScoped vs ds s → Segment vs s.count (locals_of a) → IsStmt ret l s a r → IsSorted vs ds ret l r
  stmt_sorted sc there (y.skips l s p) = tt
  stmt_sorted sc there (y.declares l s p ty x fresh some) = tt
  stmt_sorted {ret = ret} sc there (y.declares_value l s p ty x a r fresh h) =
      assign_sorted ret l (declaring_scoped ty x there sc) h
  stmt_sorted {ret = ret} sc there (y.declares_result l s p ty x f args r fresh h) =
      call_sorted ret l (declaring_scoped ty x there sc) h
  stmt_sorted {ret = ret} sc there (y.assignment l s p target op a r h) = assign_sorted ret l sc h
  stmt_sorted {ret = ret} sc there (y.call_of l s p result f args r h) = call_sorted ret l sc h
  stmt_sorted sc there (y.blocks l s p bs rs h) = list_sorted (inside_scoped sc) there h
  stmt_sorted {vs} sc there (y.ifs l s p c a o c' a' o' hc ha ho) = (
    test_sorted sc hc,
    stmt_sorted sc (first_part vs s.count (locals_of a) (locals_of_option o) there) ha,
    part_sorted (past_scoped a sc) (last_part vs s.count (locals_of a) (locals_of_option o) there) ho,
  )
  stmt_sorted sc there (y.whiles l s p c a c' a' hc ha) = (test_sorted sc hc, stmt_sorted sc there ha)
  stmt_sorted sc there (y.dos l s p a c a' c' ha hc) = (stmt_sorted sc there ha, test_sorted sc hc)
  stmt_sorted {vs} sc there (y.fors l s p i c u a i' c' u' a' hi hc hu ha) =
      let begin = first_part vs s.count (locals_of_option i) (locals_of_option u ++ locals_of a) there in
      let others = last_part vs s.count (locals_of_option i) (locals_of_option u ++ locals_of a) there in
      let loop = after_option_scoped i begin (inside_scoped sc) in
      let next = subst (λ n. Segment vs n (locals_of_option u ++ locals_of a)) (sym (after_option_count (inside s) i))
      others in
      let body = last_part vs (after_option (inside s) i).count (locals_of_option u) (locals_of a) next in (
        part_sorted (inside_scoped sc) begin hi,
        optional_sorted loop hc,
        part_sorted loop (first_part vs (after_option (inside s) i).count (locals_of_option u) (locals_of a) next) hu,
        stmt_sorted (past_option_scoped u loop) (subst (λ n. Segment vs n (locals_of a))
            (sym (past_option_count (after_option (inside s) i) u)) body) ha,
      )
  stmt_sorted sc there (y.breaks s p) = refl
  stmt_sorted sc there (y.continues s p) = refl
  stmt_sorted {vs} {ds} {ret} sc there (y.returns l s p) = return_sorted vs ds ret
  stmt_sorted sc there (y.returns_value l s p a e h) = value_sorted sc h
  stmt_sorted sc there (y.locks l s p x g is) = item_there x g Lock sc is
  stmt_sorted sc there (y.unlocks l s p x g is) = item_there x g Lock sc is
  stmt_sorted sc there (y.prints l s p a e h) = value_sorted sc h

  part_sorted : {vs : List Ty} {ds : List Decl} {ret : Ty} {l : Bool} {s : Scope} {o : StmtOption}
      {r : TypedStmtOption} → IsScoped vs ds s → Segment vs s.count (locals_of_option o) → IsPart ret l s o r →
      IsSortedPart vs ds ret l r
  part_sorted sc there (y.no_part l s) = tt
  part_sorted sc there (y.a_part l s a a' h) = stmt_sorted sc there h

  list_sorted : {vs : List Ty} {ds : List Decl} {ret : Ty} {l : Bool} {s : Scope} {bs : StmtList} {rs : TypedStmtList} →
      IsScoped vs ds s → Segment vs s.count (locals_of_list bs) → AreStmts ret l s bs rs → AreSorted vs ds ret l rs
  list_sorted sc there (y.no_stmt l s) = tt
  list_sorted {vs} sc there (y.a_stmt l s a bs a' rs h hs) =
      let begin = first_part vs s.count (locals_of a) (locals_of_list bs) there in (
        stmt_sorted sc begin h,
        list_sorted (after_scoped a begin sc) (subst (λ n. Segment vs n (locals_of_list bs)) (sym (after_count s a))
            (last_part vs s.count (locals_of a) (locals_of_list bs) there)) hs,
      )

-- functions

parameters_bound : (vs : List Ty) (n : ℕ) (xs : List Ident) (tys : List Ty) → Segment vs n tys →
    AreBound vs (parameters n xs tys ++ [])
parameters_bound vs n [] tys there = tt
parameters_bound vs n (x ∷ xs) [] there = tt
parameters_bound vs n (x ∷ xs) (ty ∷ tys) there = (
  one_local vs n ty (first_part vs n (ty ∷ []) tys there),
  parameters_bound vs (n + 1) xs tys
      (last_part vs n (ty ∷ []) tys there),
)

pub types_of_locals : (body : TypedStmtList) (n first : ℕ) (tys : List Ty) →
    map (λ v. v.ty) (locals_in body n first tys) ≡ tys
types_of_locals body n first [] = refl
types_of_locals body n first (ty ∷ tys) = λ i. ty ∷ types_of_locals body (n + 1) (first + words_of_ty ty) tys i

function_sorted : (before more : List Decl) (f : FunTree) (r : TypedFunTree) → IsFunction before f r →
    IsSortedFunction (before ++ f.decl ∷ more) r
function_sorted before more f r h = (f.decl, there, sorted)
  where
    there : slice_get (before ++ f.decl ∷ more) r.item ≡ Some f.decl
    there = ap (λ n. slice_get (before ++ f.decl ∷ more) n) h.item ∙ behind_front before more f.decl

    scoped : IsScoped (local_types f) (before ++ f.decl ∷ more) (scope_in before f)
    scoped = record {
      bound = parameters_bound (local_types f) 0 f.params (parameter_types f.decl.form)
          (record { front = []; rest = locals_of_list f.body; size = refl; all = refl });
      more = more;
      decls = sym (append_assoc before (f.decl ∷ []) more);
    }

    body : Segment (local_types f) (length (parameter_types f.decl.form)) (locals_of_list f.body)
    body = record {
      front = parameter_types f.decl.form;
      rest = [];
      size = refl;
      all = ap
          (λ zs. parameter_types f.decl.form ++ zs) (sym (append-nil (locals_of_list f.body)));
    }

    sorted : AreSorted (map (λ v. v.ty) r.locals) (before ++ f.decl ∷ more) (return_type f.decl.form) false r.body
    sorted = subst (λ vs. AreSorted vs (before ++ f.decl ∷ more) (return_type f.decl.form) false r.body)
        (sym (ap (λ ls. map (λ v. v.ty) ls) h.locals ∙ types_of_locals r.body 0 0 (local_types f)))
        (list_sorted scoped body h.body)

items_sorted : {before : List Decl} {items : List ItemTree} {rs : List TypedFunTree} (ds : List Decl) →
    ds ≡ before ++ map decl_of items → AreItems before items rs → AllByRecursion (IsSortedFunction ds) rs
items_sorted ds all (no_item before) = tt
items_sorted ds all (a_global before d vs p rest rs h hs) =
    items_sorted ds (all ∙ sym (append_assoc before (d ∷ []) (map decl_of rest))) hs
items_sorted ds all (a_prototype before d ps p rest rs h hs) =
    items_sorted ds (all ∙ sym (append_assoc before (d ∷ []) (map decl_of rest))) hs
items_sorted ds all (a_function before f rest r rs h hr hs) = (
  subst (λ es. IsSortedFunction es r) (sym all) (function_sorted before (map decl_of rest) f r hr),
  items_sorted ds (all ∙ sym (append_assoc before (f.decl ∷ []) (map decl_of rest))) hs,
)

same_decl : (a : ItemTree) → decl_of (filled_item a) ≡ decl_of a
same_decl (global d vs p) = refl
same_decl (prototype d hs p) = refl
same_decl (define f) = refl

same_decls : (items : List ItemTree) → map decl_of (map filled_item items) ≡ map decl_of items
same_decls [] = refl
same_decls (a ∷ items) = λ i. same_decl a i ∷ same_decls items i

pub IsTyped-sorted : (m : ModuleTree) (r : TypedModuleTree) → IsTyped m r → IsSortedModule r
IsTyped-sorted m r h =
    All-from_recursion (IsSortedFunction (decls_of r)) r.functions
    (items_sorted (decls_of r) (ap (λ (w : ModuleTree). map decl_of w.items) h.module_tree ∙ same_decls m.items)
    h.functions)

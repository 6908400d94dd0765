-- Through statements that have rules the walk ends without a fault, with what the rules say.
use Rattle.std.proofs.Common.{◌≡◌, ◌<◌, ℕ, suc, Bool, true, false, ◌==◌, if◌then◌else◌, List, length, Option, Some, None, Result, Ok, Err, refl, ap, ◌∙◌, arith}
use Rattle.std.specs.Prelude.{nat_lt}
use Rattle.cas_base.specs.Ty.{words_of_ty}
use Rattle.cas_base.specs.declared.kind.Kind.{Kind}
use Rattle.cas_base.specs.declared.kind.Ty.{Ty}
use Rattle.cas_base.specs.declared.kind.Ty.TheVariants.{Int, Ptr}
use Rattle.cas_base.specs.declared.place.Place.{Place}
use Rattle.cas_syntax.specs.declared.tree.Ident.{Ident}
use Rattle.cas_syntax.specs.declared.tree.BinaryOperator.{BinaryOperator}
use Rattle.cas_syntax.specs.Tree.{ExprTree, TargetTree, to_name, StmtTree, StmtOption, StmtList}
use Rattle.cas_typed.specs.declared.fault.TypeCode.TheVariants.{T2, T4, T5}
use Rattle.cas_typed.specs.declared.tree.Destination.{Destination}
use Rattle.cas_typed.specs.Faults.{Fault, fault, at_name, sooner, unless, then_, found}
use Rattle.cas_typed.specs.Modules.{has_element}
use Rattle.cas_typed.specs.Resolved as t
use Rattle.cas_typed.specs.Resolved.{TypedExprTree, TypedTargetTree, TypedStmtTree, TypedStmtOption, TypedStmtList}
use Rattle.cas_typed.specs.Resolving as r
use Rattle.cas_typed.specs.Resolving.{Found, unfit, fits, resolved, tested, Written, unwritable, written}
use Rattle.cas_typed.specs.Scopes.{Scope, Meaning, meaning, undeclared, variable, item, is_in_block, declaring, inside, past, past_option, after, after_option}
use Rattle.cas_typed.specs.Types.{variable_type, zero_literal, is_null}
use Rattle.cas_typed.specs.Typing.{Tests, Gives, an_integer, a_pointer, a_null, GivesEach, no_argument, an_argument, Writes, writes_local, writes_pointer, writes_shared, writes_element_behind, writes_shared_element, writes_behind, Assigns, assigns, Keeps, drops, keeps_integer, keeps_pointer, Calls, calls, TestsOptional, no_condition, a_condition, IsStmt, skips, declares, declares_value, declares_result, assignment, call_of, blocks, ifs, whiles, dos, fors, breaks, continues, returns, returns_value, locks, unlocks, prints, IsPart, no_part, a_part, AreStmts, no_stmt, a_stmt, cell_of, assigned}
use Rattle.cas_typed.specs.Walk as w
use Rattle.cas_typed.specs.Walk.{names_fault, target_fault, result_fault, arguments_fault, fault_alone, fault_of_name, walk_test, walk_value, walk_write, walk_assign, walk_result, takes, walk_callee, walk_call, walk_lock, walk_optional, doubled, walk, walk_part, walk_list, misfit}
use Rattle.cas_typed.proofs.Basics.{same_kind-refl}
use Rattle.cas_typed.proofs.Complete.{HasType-resolved, Tests-tested, HasType-names, Tests-names, neither_fault, no_pointer, named_behind}

-- a test without a fault, and an answer, go on
pub no_fault : {A : Type 0} {o : Option Fault} (next : Result A Fault) → o ≡ None → unless o next ≡ next
no_fault next h = ap (λ o. unless o next) h

pub goes_on : {A B : Type 0} {v : Result A Fault} {a : A} (next : A → Result B Fault) → v ≡ Ok a → then_ v next ≡ next a
goes_on next h = ap (λ v. then_ v next) h

is_found : {A : Type 0} {o : Option A} {a : A} (f : Fault) → o ≡ Some a → found o f ≡ Ok a
is_found f h = ap (λ o. found o f) h

-- conditions and values

walk_test-typed : {s : Scope} {a : ExprTree} {c : TypedExprTree} (p : Place) → Tests s a c → walk_test s p a ≡ Ok c
walk_test-typed {s} {a} p h = no_fault (found (tested (resolved s a)) (misfit p)) (Tests-names h)
    ∙ is_found (misfit p) (Tests-tested h)

value-typed : {s : Scope} {a : ExprTree} {ty : Ty} {e : TypedExprTree} → Gives s a ty e → r.value_of s a ty ≡ Some e
value-typed (an_integer a e j k h) = ap (r.given (Int k) (is_null a)) (HasType-resolved h)
value-typed (a_pointer a p k h) = ap (r.given (Ptr k) (is_null a)) (HasType-resolved h)
    ∙ ap (λ c. if c then Some p else None) (same_kind-refl k)
value-typed (a_null _ k zero_literal) = refl

value-names : {s : Scope} {a : ExprTree} {ty : Ty} {e : TypedExprTree} → Gives s a ty e → names_fault s a ≡ None
value-names (an_integer a e j k h) = HasType-names h
value-names (a_pointer a p k h) = HasType-names h
value-names (a_null _ k zero_literal) = refl

walk_value-typed : {s : Scope} {a : ExprTree} {ty : Ty} {e : TypedExprTree} (p : Place) → Gives s a ty e →
    walk_value s p a ty ≡ Ok e
walk_value-typed {s} {a} {ty} p h = no_fault (found (r.value_of s a ty) (misfit p)) (value-names h)
    ∙ is_found (misfit p) (value-typed h)

values-typed : {s : Scope} {args : List ExprTree} {tys : List Ty} {es : List TypedExprTree} → GivesEach s args tys es →
    r.values_of s args tys ≡ Some es
values-typed no_argument = refl
values-typed (an_argument a args ty tys e es h hs) = λ i. r.joined (value-typed h i) (values-typed hs i)

values-names : {s : Scope} {args : List ExprTree} {tys : List Ty} {es : List TypedExprTree} → GivesEach s args tys es →
    arguments_fault s args ≡ None
values-names no_argument = refl
values-names (an_argument a args ty tys e es h hs) = neither_fault (value-names h) (values-names hs)

values-many : {s : Scope} {args : List ExprTree} {tys : List Ty} {es : List TypedExprTree} → GivesEach s args tys es →
    length args ≡ length tys
values-many no_argument = refl
values-many (an_argument a args ty tys e es h hs) = ap suc (values-many hs)

-- targets

-- an element by the name of a local
by_name : (x : Ident) (m : Meaning) (p : TypedExprTree) (k : Kind) (f : Found) → r.named x m ≡ fits p (Ptr k) →
    r.write_indexed x m f ≡ r.write_element_behind (fits p (Ptr k)) f
by_name x undeclared p k f h = cc
by_name x (variable n ty) p k f h = ap (λ g. r.write_element_behind g f) h
by_name x (item g form) p k f h = absurd (no_pointer x g (variable_type form) p k h)

target-typed : {s : Scope} {target : TargetTree} {target' : TypedTargetTree} {ty : Ty} → Writes s target target' ty →
    r.target_of s target ≡ written target' ty
target-typed (writes_local x n k is) = ap (r.write_named x) is
target-typed (writes_pointer x n k is) = ap (r.write_named x) is
target-typed (writes_shared x g k guard is) = ap (r.write_named x) is
target-typed {s} (writes_element_behind x a p e j k h h') =
    by_name x (meaning s x) p k (resolved s a) (HasType-resolved h)
    ∙ ap (r.write_element_behind (fits p (Ptr k))) (HasType-resolved h')
target-typed (writes_shared_element x a e g n j k guard is h) = λ i. r.write_indexed x (is i) (HasType-resolved h i)
target-typed (writes_behind a p k h) = ap r.write_behind (HasType-resolved h)

target-names : {s : Scope} {target : TargetTree} {target' : TypedTargetTree} {ty : Ty} → Writes s target target' ty →
    target_fault s target ≡ None
target-names (writes_local x n k is) = ap (fault_alone x) is
target-names (writes_pointer x n k is) = ap (fault_alone x) is
target-names (writes_shared x g k guard is) = ap (fault_alone x) is
target-names {s} (writes_element_behind x a p e j k h h') =
    neither_fault (named_behind x (meaning s x) p k (HasType-resolved h)).0 (HasType-names h')
target-names (writes_shared_element x a e g n j k guard is h) =
    neither_fault (ap (fault_of_name x) is) (HasType-names h)
target-names (writes_behind a p k h) = HasType-names h

-- the second of two parts without a fault
second_part : (o p : Option Fault) → sooner o p ≡ None → p ≡ None
second_part (Some f) p h = cc
second_part None p h = h

assigned-names : (s : Scope) (target : TargetTree) (op : Option BinaryOperator) (a : ExprTree) →
    names_fault s (assigned target op a) ≡ None → names_fault s a ≡ None
assigned-names s target None a h = h
assigned-names s target (Some op) a h = second_part (names_fault s (cell_of target)) (names_fault s a) h

walk_assign-typed : {s : Scope} {p : Place} {target : TargetTree} {op : Option BinaryOperator} {a : ExprTree}
    {r' : TypedStmtTree} → Assigns s p target op a r' → walk_assign s p target op a ≡ Ok r'
walk_assign-typed {s} (assigns p target op a target' ty e h given) =
    no_fault (walk_write p (r.target_of s target) (λ ty. r.value_of s (assigned target op a) ty))
    (neither_fault (target-names h) (assigned-names s target op a (value-names given)))
    ∙ (λ i. walk_write p (target-typed h i) (λ ty. r.value_of s (assigned target op a) ty))
    ∙ goes_on (λ e. Ok (t.assign p target' e)) (is_found (misfit p) (value-typed given))

-- calls

result-typed : {s : Scope} {result : Option Ident} {ret : Ty} {kept : Option Destination} (p : Place) →
    Keeps s result ret kept → walk_result s p result ≡ Ok kept
result-typed p (drops ret) = refl
result-typed {s} p (keeps_integer x n j k is) =
    ap (λ m. then_ (found (w.kept_in m) (fault T5 p None)) (λ d. Ok (Some d))) is
result-typed {s} p (keeps_pointer x n k is) = ap (λ m. then_ (found (w.kept_in m) (fault T5 p None)) (λ d. Ok (Some d)))
    is

result-names : {s : Scope} {result : Option Ident} {ret : Ty} {kept : Option Destination} → Keeps s result ret kept →
    result_fault s result ≡ None
result-names (drops ret) = refl
result-names (keeps_integer x n j k is) = ap (fault_alone x) is
result-names (keeps_pointer x n k is) = ap (fault_alone x) is

result-taken : {s : Scope} {result : Option Ident} {ret : Ty} {kept : Option Destination} → Keeps s result ret kept →
    takes kept ret ≡ true
result-taken (drops ret) = refl
result-taken (keeps_integer x n j k is) = refl
result-taken (keeps_pointer x n k is) = same_kind-refl k

same_length : (n m : ℕ) → n ≡ m → (n == m) ≡ true
same_length n m h = grind arith

walk_call-typed : {s : Scope} {p : Place} {result : Option Ident} {f : Ident} {args : List ExprTree}
    {r' : TypedStmtTree} → Calls s p result f args r' → walk_call s p result f args ≡ Ok r'
walk_call-typed {s} (calls p result f args g ret tys holds kept es is keeps each) =
    no_fault (then_ (walk_result s p result) (λ kept. walk_callee s p kept f args (meaning s f)))
    (neither_fault (result-names keeps) (neither_fault (ap (fault_of_name f) is) (values-names each)))
    ∙ goes_on (λ kept. walk_callee s p kept f args (meaning s f)) (result-typed p keeps)
    ∙ ap (walk_callee s p kept f args) is
    ∙ no_fault (unless (if takes kept ret then None else Some (misfit p)) last)
    (ap (λ c. if c then None else at_name T4 f) (same_length (length args) (length tys) (values-many each)))
    ∙ no_fault last (ap (λ c. if c then None else Some (misfit p)) (result-taken keeps))
    ∙ goes_on (λ es. Ok (t.call p kept g f.place es)) (is_found (misfit p) (values-typed each))
  where
    last : Result TypedStmtTree Fault
    last = then_ (found (r.values_of s args tys) (misfit p)) (λ es. Ok (t.call p kept g f.place es))

-- statements

optional-typed : {s : Scope} {c : Option ExprTree} {c' : Option TypedExprTree} (p : Place) → TestsOptional s c c' →
    walk_optional s p c ≡ Ok c'
optional-typed p no_condition = refl
optional-typed p (a_condition a c h) = goes_on (λ c. Ok (Some c)) (walk_test-typed p h)

new : {A : Type 0} (s : Scope) (x : Ident) (next : Result A Fault) → is_in_block s x ≡ false →
    unless (doubled s x) next ≡ next
new s x next h = no_fault next (ap (λ c. if c then at_name T2 x else None) h)

positive : (n : ℕ) → 0 < n → nat_lt 0 n ≡ true
positive n h = grind arith

mutual
  pub IsStmt-walk : {ret : Ty} {l : Bool} {s : Scope} {a : StmtTree} {r' : TypedStmtTree} → IsStmt ret l s a r' →
      walk ret l s a ≡ Ok r'
  IsStmt-walk (skips l s p) = refl
  IsStmt-walk (declares l s p ty x fresh some) =
      new s x (if has_element (Some ty) then Ok (t.skip p) else Err (misfit p)) fresh
      ∙ ap (λ c. if c then Ok (t.skip p) else Err (misfit p)) (positive (words_of_ty ty) some)
  IsStmt-walk (declares_value l s p ty x a r' fresh h) =
      new s x (walk_assign (declaring s ty x) p (to_name x) None a) fresh ∙ walk_assign-typed h
  IsStmt-walk (declares_result l s p ty x f args r' fresh h) =
      new s x (walk_call (declaring s ty x) p (Some x) f args) fresh ∙ walk_call-typed h
  IsStmt-walk (assignment l s p target op a r' h) = walk_assign-typed h
  IsStmt-walk (call_of l s p result f args r' h) = walk_call-typed h
  IsStmt-walk (blocks l s p bs rs h) = goes_on (λ rs. Ok (t.block p rs)) (AreStmts-walk h)
  IsStmt-walk {ret} (ifs l s p c a o c' a' o' hc ha ho) =
      goes_on (λ c'. then_ (walk ret l s a) (λ a'. then_ (walk_part ret l (past s a) o) (λ o'. Ok (t.if_ p c' a' o'))))
      (walk_test-typed p hc)
      ∙ goes_on (λ a'. then_ (walk_part ret l (past s a) o) (λ o'. Ok (t.if_ p c' a' o'))) (IsStmt-walk ha)
      ∙ goes_on (λ o'. Ok (t.if_ p c' a' o')) (IsPart-walk ho)
  IsStmt-walk {ret} (whiles l s p c a c' a' hc ha) =
      goes_on (λ c'. then_ (walk ret true s a) (λ a'. Ok (t.while_ p c' a'))) (walk_test-typed p hc)
      ∙ goes_on (λ a'. Ok (t.while_ p c' a')) (IsStmt-walk ha)
  IsStmt-walk {ret} (dos l s p a c a' c' ha hc) =
      goes_on (λ a'. then_ (walk_test s p c) (λ c'. Ok (t.do_ p a' c'))) (IsStmt-walk ha)
      ∙ goes_on (λ c'. Ok (t.do_ p a' c')) (walk_test-typed p hc)
  IsStmt-walk {ret} (fors l s p i c u a i' c' u' a' hi hc hu ha) =
      goes_on (λ i'. then_ (walk_optional (after_option (inside s) i) p c)
      (λ c'. then_ (walk_part ret l (after_option (inside s) i) u)
      (λ u'. then_ (walk ret true (past_option (after_option (inside s) i) u) a)
      (λ a'. Ok (t.for_ p i' c' u' a'))))) (IsPart-walk hi)
      ∙ goes_on (λ c'. then_ (walk_part ret l (after_option (inside s) i) u)
      (λ u'. then_ (walk ret true (past_option (after_option (inside s) i) u) a) (λ a'. Ok (t.for_ p i' c' u' a'))))
      (optional-typed p hc)
      ∙ goes_on (λ u'. then_ (walk ret true (past_option (after_option (inside s) i) u) a)
      (λ a'. Ok (t.for_ p i' c' u' a'))) (IsPart-walk hu)
      ∙ goes_on (λ a'. Ok (t.for_ p i' c' u' a')) (IsStmt-walk ha)
  IsStmt-walk (breaks s p) = refl
  IsStmt-walk (continues s p) = refl
  IsStmt-walk (returns l s p) = refl
  IsStmt-walk (returns_value l s p a e h) = goes_on (λ e. Ok (t.return_ p (Some e))) (walk_value-typed p h)
  IsStmt-walk (locks l s p x g is) = ap (λ m. then_ (walk_lock p x m) (λ g. Ok (t.lock p g))) is
  IsStmt-walk (unlocks l s p x g is) = ap (λ m. then_ (walk_lock p x m) (λ g. Ok (t.unlock p g))) is
  IsStmt-walk (prints l s p a e h) = goes_on (λ e. Ok (t.print p e)) (walk_value-typed p h)

  pub IsPart-walk : {ret : Ty} {l : Bool} {s : Scope} {a : StmtOption} {r' : TypedStmtOption} → IsPart ret l s a r' →
      walk_part ret l s a ≡ Ok r'
  IsPart-walk (no_part l s) = refl
  IsPart-walk (a_part l s a a' h) = goes_on (λ a'. Ok (t.present a')) (IsStmt-walk h)

  pub AreStmts-walk : {ret : Ty} {l : Bool} {s : Scope} {bs : StmtList} {rs : TypedStmtList} → AreStmts ret l s bs rs →
      walk_list ret l s bs ≡ Ok rs
  AreStmts-walk (no_stmt l s) = refl
  AreStmts-walk {ret} (a_stmt l s a bs a' rs h hs) =
      goes_on (λ a'. then_ (walk_list ret l (after s a) bs) (λ rs. Ok (t.one_more a' rs))) (IsStmt-walk h)
      ∙ goes_on (λ rs. Ok (t.one_more a' rs)) (AreStmts-walk hs)

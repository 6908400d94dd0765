-- Where the walk through statements ends without a fault, what it answers has rules.
use Rattle.std.proofs.Common.{◌≡◌, ◌<◌, ℕ, Bool, true, false, ◌==◌, if◌then◌else◌, List, [], ◌∷◌, length, Option, Some, None, Result, Ok, Err, refl, sym, subst, arith}
use Rattle.std.specs.Prelude.{nat_lt}
use Rattle.cas_base.specs.Ty.{same_kind, words_of_ty}
use Rattle.cas_base.specs.declared.decl.Form.TheVariants.{Lock, Shared, Function}
use Rattle.cas_base.specs.declared.kind.Kind.{Kind}
use Rattle.cas_base.specs.declared.kind.Kind.TheVariants.{I32}
use Rattle.cas_base.specs.declared.kind.Ty.{Ty}
use Rattle.cas_base.specs.declared.kind.Ty.TheVariants.{Int, Ptr, Array}
use Rattle.cas_base.specs.declared.place.Place.{Place}
use Rattle.cas_syntax.specs.declared.tree.Ident.{Ident}
use Rattle.cas_syntax.specs.declared.tree.BinaryOperator.{BinaryOperator}
use Rattle.cas_syntax.specs.Tree.{ExprTree, name, TargetTree, to_name, to_index, to_deref, InitTree, nothing, value, called, StmtTree, skip, declare, assign, call, block, if_, while_, do_, for_, break_, continue_, return_, lock, unlock, print, StmtOption, absent, present, StmtList, no_more, one_more}
use Rattle.cas_typed.specs.declared.fault.TypeCode.TheVariants.{T2, T4, T5}
use Rattle.cas_typed.specs.declared.tree.Destination.{Destination}
use Rattle.cas_typed.specs.Faults.{Fault, fault, at_name, sooner, unless, then_, found}
use Rattle.cas_typed.specs.Modules.{has_element}
use Rattle.cas_typed.specs.Resolved as t
use Rattle.cas_typed.specs.Resolved.{TypedExprTree, TypedTargetTree, TypedStmtTree, TypedStmtOption, TypedStmtList}
use Rattle.cas_typed.specs.Resolving as r
use Rattle.cas_typed.specs.Resolving.{Found, unfit, fits, resolved, tested, Written, unwritable, written}
use Rattle.cas_typed.specs.Scopes.{Scope, Meaning, meaning, undeclared, variable, item, is_in_block, declaring, inside, past, past_option, after, after_option}
use Rattle.cas_typed.specs.Types.{is_null}
use Rattle.cas_typed.specs.Typing as y
use Rattle.cas_typed.specs.Typing.{HasType, Tests, Gives, GivesEach, Writes, Assigns, Keeps, Calls, TestsOptional, IsStmt, IsPart, AreStmts, assigned}
use Rattle.cas_typed.specs.Walk as w
use Rattle.cas_typed.specs.Walk.{names_fault, walk_test, walk_value, walk_write, walk_assign, kept_in, walk_result, takes, takes_at, walk_callee, walk_call, walk_lock, walk_optional, walk_return, doubled, walk_declare, walk_leave, walk, walk_part, walk_list, misfit}
use Rattle.cas_typed.proofs.Basics.{same_kind-true, is_null-true, Holds, HoldsOption, Holds-unless, Holds-then, Holds-found, Holds-map}
use Rattle.cas_typed.proofs.Expressions.{IsRight, IsRightTest, right_named, resolved-right, tested-right}

-- what was found under a test
under : {A : Type 0} (P : A → Type 0) (c : Bool) (e : A) → (c ≡ true → P e) → HoldsOption P (if c then Some e else None)
under P true e h = h refl
under P false e h = tt

-- conditions and values

test_found : (s : Scope) (a : ExprTree) (o : Option TypedExprTree) → IsRightTest s a o → HoldsOption (Tests s a) o
test_found s a (Some c) h = h
test_found s a None h = tt

walk_test-right : (s : Scope) (p : Place) (a : ExprTree) → Holds (Tests s a) (walk_test s p a)
walk_test-right s p a =
    Holds-unless (Tests s a) (names_fault s a) (found (tested (resolved s a)) (misfit p))
    (Holds-found (Tests s a) (tested (resolved s a)) (misfit p)
    (test_found s a (tested (resolved s a)) (tested-right s a)))

given_right : (s : Scope) (a : ExprTree) (ty : Ty) (f : Found) → IsRight s a f →
    HoldsOption (Gives s a ty) (r.given ty (is_null a) f)
given_right s a (Int k) (fits e (Int j)) h = y.an_integer a e j k h
given_right s a (Ptr k) (fits p (Ptr j)) h = under (Gives s a (Ptr k)) (same_kind j k) p
    (λ same. y.a_pointer a p k (subst (λ i. HasType s a p (Ptr i)) (same_kind-true j k same) h))
given_right s a (Ptr k) (fits e (Int j)) h = under (Gives s a (Ptr k)) (is_null a) t.null
    (λ null. y.a_null a k (is_null-true a null))
given_right s a _ _ h = tt

value-right : (s : Scope) (a : ExprTree) (ty : Ty) → HoldsOption (Gives s a ty) (r.value_of s a ty)
value-right s a ty = given_right s a ty (resolved s a) (resolved-right s a)

walk_value-right : (s : Scope) (p : Place) (a : ExprTree) (ty : Ty) → Holds (Gives s a ty) (walk_value s p a ty)
walk_value-right s p a ty =
    Holds-unless (Gives s a ty) (names_fault s a) (found (r.value_of s a ty) (misfit p))
    (Holds-found (Gives s a ty) (r.value_of s a ty) (misfit p) (value-right s a ty))

joined_right : (s : Scope) (a : ExprTree) (args : List ExprTree) (ty : Ty) (tys : List Ty) (o : Option TypedExprTree)
    (os : Option (List TypedExprTree)) →
    HoldsOption (Gives s a ty) o → HoldsOption (GivesEach s args tys) os →
    HoldsOption (GivesEach s (a ∷ args) (ty ∷ tys)) (r.joined o os)
joined_right s a args ty tys (Some e) (Some es) h hs = y.an_argument a args ty tys e es h hs
joined_right s a args ty tys _ _ h hs = tt

values-right : (s : Scope) (args : List ExprTree) (tys : List Ty) →
    HoldsOption (GivesEach s args tys) (r.values_of s args tys)
values-right s [] [] = y.no_argument
values-right s [] (ty ∷ tys) = tt
values-right s (a ∷ args) [] = tt
values-right s (a ∷ args) (ty ∷ tys) = joined_right s a args ty tys (r.value_of s a ty) (r.values_of s args tys)
    (value-right s a ty) (values-right s args tys)

-- targets

abbrev IsRightWrite : Scope → TargetTree → Written → Type 0
IsRightWrite s target unwritable = Unit {0}
IsRightWrite s target (written target' ty) = Writes s target target' ty

write_named_right : (s : Scope) (x : Ident) (m : Meaning) → meaning s x ≡ m →
    IsRightWrite s (to_name x) (r.write_named x m)
write_named_right s x (variable n (Int k)) is = y.writes_local x n k is
write_named_right s x (variable n (Ptr k)) is = y.writes_pointer x n k is
write_named_right s x (item g (Shared (Int k) guard)) is = y.writes_shared x g k guard is
write_named_right s x _ is = tt

write_element_behind_right : (s : Scope) (x : Ident) (a : ExprTree) (f g : Found) → IsRight s (name x) f →
    IsRight s a g → IsRightWrite s (to_index x a) (r.write_element_behind f g)
write_element_behind_right s x a (fits p (Ptr k)) (fits e (Int j)) h h' = y.writes_element_behind x a p e j k h h'
write_element_behind_right s x a _ _ h h' = tt

write_element_right : (s : Scope) (x : Ident) (a : ExprTree) (g n : ℕ) (k : Kind) (guard : List ℕ) (f : Found) →
    meaning s x ≡ item g (Shared (Array k n) guard) → IsRight s a f →
    IsRightWrite s (to_index x a) (r.write_element x g k f)
write_element_right s x a g n k guard (fits e (Int j)) is h = y.writes_shared_element x a e g n j k guard is h
write_element_right s x a g n k guard _ is h = tt

write_indexed_right : (s : Scope) (x : Ident) (a : ExprTree) (m : Meaning) (f : Found) → meaning s x ≡ m →
    IsRight s a f → IsRightWrite s (to_index x a) (r.write_indexed x m f)
write_indexed_right s x a (item g (Shared (Array k n) guard)) f is h = write_element_right s x a g n k guard f is h
write_indexed_right s x a (item g form) f is h = tt
write_indexed_right s x a undeclared f is h = tt
write_indexed_right s x a (variable n ty) f is h = write_element_behind_right s x a (r.named x (variable n ty)) f
    (right_named s x (variable n ty) is) h

write_behind_right : (s : Scope) (a : ExprTree) (f : Found) → IsRight s a f →
    IsRightWrite s (to_deref a) (r.write_behind f)
write_behind_right s a (fits p (Ptr k)) h = y.writes_behind a p k h
write_behind_right s a _ h = tt

target-right : (s : Scope) (target : TargetTree) → IsRightWrite s target (r.target_of s target)
target-right s (to_name x) = write_named_right s x (meaning s x) refl
target-right s (to_index x a) = write_indexed_right s x a (meaning s x) (resolved s a) refl (resolved-right s a)
target-right s (to_deref a) = write_behind_right s a (resolved s a) (resolved-right s a)

-- assignments and calls

write_right : (s : Scope) (p : Place) (target : TargetTree) (op : Option BinaryOperator) (a : ExprTree) (v : Written) →
    IsRightWrite s target v →
    Holds (Assigns s p target op a) (walk_write p v (λ ty. r.value_of s (assigned target op a) ty))
write_right s p target op a unwritable h = tt
write_right s p target op a (written target' ty) h =
    Holds-then (Gives s (assigned target op a) ty) (Assigns s p target op a)
    (found (r.value_of s (assigned target op a) ty) (misfit p)) (λ e. Ok (t.assign p target' e))
    (Holds-found (Gives s (assigned target op a) ty) (r.value_of s (assigned target op a) ty) (misfit p)
    (value-right s (assigned target op a) ty))
    (λ e given. y.assigns p target op a target' ty e h given)

walk_assign-right : (s : Scope) (p : Place) (target : TargetTree) (op : Option BinaryOperator) (a : ExprTree) →
    Holds (Assigns s p target op a) (walk_assign s p target op a)
walk_assign-right s p target op a =
    Holds-unless (Assigns s p target op a) (sooner (w.target_fault s target) (names_fault s a))
    (walk_write p (r.target_of s target) (λ ty. r.value_of s (assigned target op a) ty))
    (write_right s p target op a (r.target_of s target) (target-right s target))

-- where a result is kept
abbrev IsKept : Scope → Option Ident → Option Destination → Type 0
IsKept s result kept = (ret : Ty) → takes kept ret ≡ true → Keeps s result ret kept

kept_right : (s : Scope) (x : Ident) (m : Meaning) → meaning s x ≡ m →
    HoldsOption (λ d. IsKept s (Some x) (Some d)) (kept_in m)
kept_right s x (variable n (Int k)) is = taken
  where
    taken : IsKept s (Some x) (Some (record { local = n; ty = Int k }))
    taken (Int j) h = y.keeps_integer x n j k is
    taken _ h = cc
kept_right s x (variable n (Ptr k)) is = taken
  where
    taken : IsKept s (Some x) (Some (record { local = n; ty = Ptr k }))
    taken (Ptr j) h = subst (λ i. Keeps s (Some x) (Ptr i) (Some (record { local = n; ty = Ptr k })))
        (sym (same_kind-true j k h)) (y.keeps_pointer x n k is)
    taken _ h = cc
kept_right s x _ is = tt

result-right : (s : Scope) (p : Place) (result : Option Ident) → Holds (IsKept s result) (walk_result s p result)
result-right s p None = λ ret h. y.drops ret
result-right s p (Some x) =
    Holds-then (λ d. IsKept s (Some x) (Some d)) (IsKept s (Some x)) (found (kept_in (meaning s x)) (fault T5 p None))
    (λ d. Ok (Some d))
    (Holds-found (λ d. IsKept s (Some x) (Some d)) (kept_in (meaning s x)) (fault T5 p None)
    (kept_right s x (meaning s x) refl))
    (λ d h. h)

-- a test that faults where it fails
tested_first : {A : Type 0} (P : A → Type 0) (c : Bool) (f : Fault) (next : Result A Fault) →
    (c ≡ true → Holds P next) → Holds P (unless (if c then None else Some f) next)
tested_first P true f next h = h refl
tested_first P false f next h = tt

callee_right : (s : Scope) (p : Place) (result : Option Ident) (kept : Option Destination) (f : Ident)
    (args : List ExprTree) (m : Meaning) → meaning s f ≡ m → IsKept s result kept →
    Holds (Calls s p result f args) (walk_callee s p kept f args m)
callee_right s p result kept f args (item g (Function ret tys holds)) is h =
    tested_first (Calls s p result f args) (length args == length tys) (fault T4 f.place (Some f.name))
    (unless (if takes kept ret then None else Some (misfit p)) last) (λ len.
    tested_first (Calls s p result f args) (takes kept ret) (misfit p) last (λ fit.
    Holds-then (GivesEach s args tys) (Calls s p result f args) (found (r.values_of s args tys) (misfit p))
    (λ es. Ok (t.call p kept g f.place es))
    (Holds-found (GivesEach s args tys) (r.values_of s args tys) (misfit p) (values-right s args tys))
    (λ es each. y.calls p result f args g ret tys holds kept es is (h ret fit) each)))
  where
    last : Result TypedStmtTree Fault
    last = then_ (found (r.values_of s args tys) (misfit p)) (λ es. Ok (t.call p kept g f.place es))
callee_right s p result kept f args _ is h = tt

walk_call-right : (s : Scope) (p : Place) (result : Option Ident) (f : Ident) (args : List ExprTree) →
    Holds (Calls s p result f args) (walk_call s p result f args)
walk_call-right s p result f args =
    Holds-unless (Calls s p result f args) (sooner (w.result_fault s result)
    (sooner (w.fault_of_name f (meaning s f)) (w.arguments_fault s args)))
    (then_ (walk_result s p result) (λ kept. walk_callee s p kept f args (meaning s f)))
    (Holds-then (IsKept s result) (Calls s p result f args) (walk_result s p result)
    (λ kept. walk_callee s p kept f args (meaning s f))
    (result-right s p result) (λ kept h. callee_right s p result kept f args (meaning s f) refl h))

-- the other statements

lock_right : (s : Scope) (p : Place) (x : Ident) (m : Meaning) → meaning s x ≡ m →
    Holds (λ g. meaning s x ≡ item g Lock) (walk_lock p x m)
lock_right s p x (item g Lock) is = is
lock_right s p x _ is = tt

optional_right : (s : Scope) (p : Place) (c : Option ExprTree) → Holds (TestsOptional s c) (walk_optional s p c)
optional_right s p None = y.no_condition
optional_right s p (Some a) = Holds-then (Tests s a) (TestsOptional s (Some a)) (walk_test s p a) (λ c. Ok (Some c))
    (walk_test-right s p a) (λ c h. y.a_condition a c h)

return_right : (ret : Ty) (l : Bool) (s : Scope) (p : Place) (a : Option ExprTree) →
    Holds (IsStmt ret l s (return_ p a)) (walk_return s p ret a)
return_right ret l s p None = y.returns l s p
return_right ret l s p (Some a) =
    Holds-then (Gives s a ret) (IsStmt ret l s (return_ p (Some a))) (walk_value s p a ret)
    (λ e. Ok (t.return_ p (Some e)))
    (walk_value-right s p a ret) (λ e h. y.returns_value l s p a e h)

-- a name that is new in its block
new : {A : Type 0} (P : A → Type 0) (s : Scope) (x : Ident) (next : Result A Fault) →
    (is_in_block s x ≡ false → Holds P next) → Holds P (unless (doubled s x) next)
new P s x next h = test (is_in_block s x) refl
  where
    test : (c : Bool) → is_in_block s x ≡ c → Holds P (unless (if c then at_name T2 x else None) next)
    test true is = tt
    test false is = h is

cells_right : (ret : Ty) (l : Bool) (s : Scope) (p : Place) (ty : Ty) (x : Ident) (c : Bool) →
    has_element (Some ty) ≡ c → is_in_block s x ≡ false →
    Holds (IsStmt ret l s (declare p ty x nothing)) (if c then Ok (t.skip p) else Err (misfit p))
cells_right ret l s p ty x true is fresh = y.declares l s p ty x fresh (positive is)
  where
    positive : nat_lt 0 (words_of_ty ty) ≡ true → 0 < words_of_ty ty
    positive h = grind arith
cells_right ret l s p ty x false is fresh = tt

declare_right : (ret : Ty) (l : Bool) (s : Scope) (p : Place) (ty : Ty) (x : Ident) (a : InitTree) →
    Holds (IsStmt ret l s (declare p ty x a)) (walk_declare s p ty x a)
declare_right ret l s p ty x nothing =
    new (IsStmt ret l s (declare p ty x nothing)) s x (if has_element (Some ty) then Ok (t.skip p) else Err (misfit p))
    (λ fresh. cells_right ret l s p ty x (has_element (Some ty)) refl fresh)
declare_right ret l s p ty x (value a) =
    new (IsStmt ret l s (declare p ty x (value a))) s x (walk_assign (declaring s ty x) p (to_name x) None a)
    (λ fresh. Holds-map (Assigns (declaring s ty x) p (to_name x) None a) (IsStmt ret l s (declare p ty x (value a)))
    (walk_assign (declaring s ty x) p (to_name x) None a)
    (λ r h. y.declares_value l s p ty x a r fresh h) (walk_assign-right (declaring s ty x) p (to_name x) None a))
declare_right ret l s p ty x (called f args) =
    new (IsStmt ret l s (declare p ty x (called f args))) s x (walk_call (declaring s ty x) p (Some x) f args)
    (λ fresh. Holds-map (Calls (declaring s ty x) p (Some x) f args) (IsStmt ret l s (declare p ty x (called f args)))
    (walk_call (declaring s ty x) p (Some x) f args)
    (λ r h. y.declares_result l s p ty x f args r fresh h) (walk_call-right (declaring s ty x) p (Some x) f args))

break_right : (ret : Ty) (l : Bool) (s : Scope) (p : Place) →
    Holds (IsStmt ret l s (break_ p)) (walk_leave l p (t.break_ p))
break_right ret true s p = y.breaks s p
break_right ret false s p = tt

continue_right : (ret : Ty) (l : Bool) (s : Scope) (p : Place) →
    Holds (IsStmt ret l s (continue_ p)) (walk_leave l p (t.continue_ p))
continue_right ret true s p = y.continues s p
continue_right ret false s p = tt

mutual
  pub walk-right : (ret : Ty) (l : Bool) (s : Scope) (a : StmtTree) → Holds (IsStmt ret l s a) (walk ret l s a)
  walk-right ret l s (skip p) = y.skips l s p
  walk-right ret l s (declare p ty x a) = declare_right ret l s p ty x a
  walk-right ret l s (assign p target op a) =
      Holds-map (Assigns s p target op a) (IsStmt ret l s (assign p target op a)) (walk_assign s p target op a)
      (λ r h. y.assignment l s p target op a r h) (walk_assign-right s p target op a)
  walk-right ret l s (call p x f args) =
      Holds-map (Calls s p x f args) (IsStmt ret l s (call p x f args)) (walk_call s p x f args)
      (λ r h. y.call_of l s p x f args r h) (walk_call-right s p x f args)
  walk-right ret l s (block p bs) =
      Holds-then (AreStmts ret l (inside s) bs) (IsStmt ret l s (block p bs)) (walk_list ret l (inside s) bs)
      (λ rs. Ok (t.block p rs))
      (walk_list-right ret l (inside s) bs) (λ rs h. y.blocks l s p bs rs h)
  walk-right ret l s (if_ p c a o) =
      Holds-then (Tests s c) (IsStmt ret l s (if_ p c a o)) (walk_test s p c)
      (λ c'. then_ (walk ret l s a) (λ a'. then_ (walk_part ret l (past s a) o) (λ o'. Ok (t.if_ p c' a' o'))))
      (walk_test-right s p c) (λ c' hc.
      Holds-then (IsStmt ret l s a) (IsStmt ret l s (if_ p c a o)) (walk ret l s a)
      (λ a'. then_ (walk_part ret l (past s a) o) (λ o'. Ok (t.if_ p c' a' o')))
      (walk-right ret l s a) (λ a' ha.
      Holds-then (IsPart ret l (past s a) o) (IsStmt ret l s (if_ p c a o)) (walk_part ret l (past s a) o)
      (λ o'. Ok (t.if_ p c' a' o'))
      (walk_part-right ret l (past s a) o) (λ o' ho. y.ifs l s p c a o c' a' o' hc ha ho)))
  walk-right ret l s (while_ p c a) =
      Holds-then (Tests s c) (IsStmt ret l s (while_ p c a)) (walk_test s p c)
      (λ c'. then_ (walk ret true s a) (λ a'. Ok (t.while_ p c' a')))
      (walk_test-right s p c) (λ c' hc.
      Holds-then (IsStmt ret true s a) (IsStmt ret l s (while_ p c a)) (walk ret true s a) (λ a'. Ok (t.while_ p c' a'))
      (walk-right ret true s a) (λ a' ha. y.whiles l s p c a c' a' hc ha))
  walk-right ret l s (do_ p a c) =
      Holds-then (IsStmt ret true s a) (IsStmt ret l s (do_ p a c)) (walk ret true s a)
      (λ a'. then_ (walk_test s p c) (λ c'. Ok (t.do_ p a' c')))
      (walk-right ret true s a) (λ a' ha.
      Holds-then (Tests s c) (IsStmt ret l s (do_ p a c)) (walk_test s p c) (λ c'. Ok (t.do_ p a' c'))
      (walk_test-right s p c) (λ c' hc. y.dos l s p a c a' c' ha hc))
  walk-right ret l s (for_ p i c u a) =
      Holds-then (IsPart ret l (inside s) i) (IsStmt ret l s (for_ p i c u a)) (walk_part ret l (inside s) i)
      (λ i'. then_ (walk_optional (after_option (inside s) i) p c)
      (λ c'. then_ (walk_part ret l (after_option (inside s) i) u)
      (λ u'. then_ (walk ret true (past_option (after_option (inside s) i) u) a)
      (λ a'. Ok (t.for_ p i' c' u' a')))))
      (walk_part-right ret l (inside s) i) (λ i' hi.
      Holds-then (TestsOptional (after_option (inside s) i) c) (IsStmt ret l s (for_ p i c u a))
      (walk_optional (after_option (inside s) i) p c)
      (λ c'. then_ (walk_part ret l (after_option (inside s) i) u)
      (λ u'. then_ (walk ret true (past_option (after_option (inside s) i) u) a) (λ a'. Ok (t.for_ p i' c' u' a'))))
      (optional_right (after_option (inside s) i) p c) (λ c' hc.
      Holds-then (IsPart ret l (after_option (inside s) i) u) (IsStmt ret l s (for_ p i c u a))
      (walk_part ret l (after_option (inside s) i) u)
      (λ u'. then_ (walk ret true (past_option (after_option (inside s) i) u) a) (λ a'. Ok (t.for_ p i' c' u' a')))
      (walk_part-right ret l (after_option (inside s) i) u) (λ u' hu.
      Holds-then (IsStmt ret true (past_option (after_option (inside s) i) u) a) (IsStmt ret l s (for_ p i c u a))
      (walk ret true (past_option (after_option (inside s) i) u) a) (λ a'. Ok (t.for_ p i' c' u' a'))
      (walk-right ret true (past_option (after_option (inside s) i) u) a)
      (λ a' ha. y.fors l s p i c u a i' c' u' a' hi hc hu ha))))
  walk-right ret l s (break_ p) = break_right ret l s p
  walk-right ret l s (continue_ p) = continue_right ret l s p
  walk-right ret l s (return_ p a) = return_right ret l s p a
  walk-right ret l s (lock p x) =
      Holds-then (λ g. meaning s x ≡ item g Lock) (IsStmt ret l s (lock p x)) (walk_lock p x (meaning s x))
      (λ g. Ok (t.lock p g)) (lock_right s p x (meaning s x) refl) (λ g h. y.locks l s p x g h)
  walk-right ret l s (unlock p x) =
      Holds-then (λ g. meaning s x ≡ item g Lock) (IsStmt ret l s (unlock p x)) (walk_lock p x (meaning s x))
      (λ g. Ok (t.unlock p g)) (lock_right s p x (meaning s x) refl) (λ g h. y.unlocks l s p x g h)
  walk-right ret l s (print p a) =
      Holds-then (Gives s a (Int I32)) (IsStmt ret l s (print p a)) (walk_value s p a (Int I32)) (λ e. Ok (t.print p e))
      (walk_value-right s p a (Int I32)) (λ e h. y.prints l s p a e h)

  pub walk_part-right : (ret : Ty) (l : Bool) (s : Scope) (a : StmtOption) →
      Holds (IsPart ret l s a) (walk_part ret l s a)
  walk_part-right ret l s absent = y.no_part l s
  walk_part-right ret l s (present a) =
      Holds-then (IsStmt ret l s a) (IsPart ret l s (present a)) (walk ret l s a) (λ a'. Ok (t.present a'))
      (walk-right ret l s a) (λ a' h. y.a_part l s a a' h)

  pub walk_list-right : (ret : Ty) (l : Bool) (s : Scope) (bs : StmtList) →
      Holds (AreStmts ret l s bs) (walk_list ret l s bs)
  walk_list-right ret l s no_more = y.no_stmt l s
  walk_list-right ret l s (one_more a bs) =
      Holds-then (IsStmt ret l s a) (AreStmts ret l s (one_more a bs)) (walk ret l s a)
      (λ a'. then_ (walk_list ret l (after s a) bs) (λ rs. Ok (t.one_more a' rs)))
      (walk-right ret l s a) (λ a' ha.
      Holds-then (AreStmts ret l (after s a) bs) (AreStmts ret l s (one_more a bs)) (walk_list ret l (after s a) bs)
      (λ rs. Ok (t.one_more a' rs))
      (walk_list-right ret l (after s a) bs) (λ rs hs. y.a_stmt l s a bs a' rs ha hs))

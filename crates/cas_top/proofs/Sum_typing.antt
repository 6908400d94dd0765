-- A function that prints a sum of literals is resolved in one way.
use Rattle.std.proofs.Common.{◌≡◌, Bool, List, [], ◌∷◌, Option, None, Result, Ok, refl, sym, ap, ◌∙◌}
use Rattle.std.specs.Prelude.{⊤}
use Rattle.cas_base.specs.declared.decl.Decl.{Decl}
use Rattle.cas_base.specs.declared.kind.Kind.TheVariants.{I32}
use Rattle.cas_base.specs.declared.kind.Ty.{Ty}
use Rattle.cas_base.specs.declared.kind.Ty.TheVariants.{Int}
use Rattle.cas_base.specs.declared.place.Place.{Place}
use Rattle.cas_syntax.specs.Tree.{ExprTree, literal, no_more, one_more, print, FunTree, ItemTree, define}
use Rattle.cas_syntax.specs.declared.tree.BinaryOperator.TheVariants.{Add}
use Rattle.cas_typed.specs.Faults.{Fault, sooner, unless, then_, found}
use Rattle.cas_typed.specs.Modules.{IsFunction, AreItems, no_item, a_global, a_prototype, a_function}
use Rattle.cas_typed.specs.Resolved as t
use Rattle.cas_typed.specs.Resolved.{TypedStmtList, TypedFunTree}
use Rattle.cas_typed.specs.Resolving.{Found, fits, resolved, binary_found, given}
use Rattle.cas_typed.specs.Scopes.{Scope}
use Rattle.cas_typed.specs.Types.{is_null}
use Rattle.cas_typed.specs.Typing.{AreStmts}
use Rattle.cas_typed.specs.Walk.{names_fault, misfit, walk_list}
use Rattle.cas_typed.proofs.Typed_statements.{AreStmts-walk}
use Rattle.cas_top.specs.Machine.{IsExprCode, loads, adds}
use Rattle.cas_top.specs.declared.machine.Instr.{Instr}
use Rattle.cas_top.proofs.Sum_laws.{typed_sum}

-- a sum is resolved to one tree, in each scope
resolved_sum : {a : ExprTree} {code : List Instr} → IsExprCode a code → (s : Scope) →
    resolved s a ≡ fits (typed_sum a) (Int I32)
resolved_sum (loads n) s = refl
resolved_sum (adds sum code n is_code) s =
    ap (λ f. binary_found Add (is_null sum) (is_null (literal n I32)) f (fits (t.literal n) (Int I32)))
    (resolved_sum is_code s)

-- it has no names
no_names : {a : ExprTree} {code : List Instr} → IsExprCode a code → (s : Scope) → names_fault s a ≡ None
no_names (loads n) s = refl
no_names (adds sum code n is_code) s = ap (λ o. sooner o None) (no_names is_code s)

-- the body that prints it, resolved
abbrev pub typed_body : Place → ExprTree → TypedStmtList
typed_body p a = t.one_more (t.print p (t.narrow I32 (typed_sum a))) t.no_more

-- what the walk makes of a statement that prints an expression, by the fault of its names and by what was found of it
abbrev walked : Place → (is_zero : Bool) → Option Fault → Found → Result TypedStmtList Fault
walked p z o f =
    then_ (then_ (unless o (found (given (Int I32) z f) (misfit p))) (λ e. Ok (t.print p e)))
    (λ r. then_ (Ok t.no_more) (λ rs. Ok (t.one_more r rs)))

walk_sum : {a : ExprTree} {code : List Instr} (ret : Ty) (l : Bool) (s : Scope) (p : Place) → IsExprCode a code →
    walk_list ret l s (one_more (print p a) no_more) ≡ Ok (typed_body p a)
walk_sum {a} ret l s p is_code = λ i. walked p (is_null a) (no_names is_code s i) (resolved_sum is_code s i)

ok_injective : (x y : TypedStmtList) → ◌≡◌ {A = Result TypedStmtList Fault} (Ok x) (Ok y) → x ≡ y
ok_injective x y h = cc

-- a body that prints a sum is resolved to one
pub body_resolved : {a : ExprTree} {code : List Instr} {ret : Ty} {l : Bool} {s : Scope} {rs : TypedStmtList}
    (p : Place) → IsExprCode a code →
    AreStmts ret l s (one_more (print p a) no_more) rs → rs ≡ typed_body p a
body_resolved {a} {ret = ret} {l} {s} {rs} p is_code h =
    ok_injective rs (typed_body p a) (sym (AreStmts-walk h) ∙ walk_sum ret l s p is_code)

-- the functions of a module of one function
abbrev AreOne : List Decl → List ItemTree → List TypedFunTree → Type 0
AreOne before [] rs = rs ≡ []
AreOne before (define f ∷ []) rs = (r : TypedFunTree) × IsFunction before f r × (rs ≡ r ∷ [])
AreOne before _ rs = ⊤

are_one : {before : List Decl} {items : List ItemTree} {rs : List TypedFunTree} → AreItems before items rs →
    AreOne before items rs
are_one (no_item before) = refl
are_one (a_global before d vs p rest rs h hs) = tt
are_one (a_prototype before d places p rest rs h hs) = tt
are_one (a_function before f [] r rs h hr hs) = (r, hr, ap (λ xs. r ∷ xs) (are_one hs))
are_one (a_function before f (b ∷ rest) r rs h hr hs) = tt

pub one_function : {f : FunTree} {rs : List TypedFunTree} → AreItems [] (define f ∷ []) rs → (r : TypedFunTree)
    × IsFunction [] f r × (rs ≡ r ∷ [])
one_function h = are_one h

-- Small programs: at which places their steps are, calls into another module and into the same function, and orders
-- of faults.
use Rattle.std.proofs.Common.{◌≡◌, ℕ, List, [], ◌∷◌, Option, Some, None, refl}
use Rattle.std.specs.Prelude.{map, nat_eq, false, if◌then◌else◌}
use Rattle.cas_base.specs.declared.act.Why.TheVariants.{Null, Dead}
use Rattle.cas_base.specs.declared.kind.Kind.TheVariants.{I32}
use Rattle.cas_base.specs.declared.kind.Ty.TheVariants.{Void, Int, Ptr}
use Rattle.cas_syntax.specs.declared.tree.BinaryOperator.TheVariants as bin
use Rattle.cas_typed.specs.declared.tree.Signedness.TheVariants.{Signed}
use Rattle.cas_typed.specs.Resolved as t
use Rattle.cas_typed.specs.Resolved.{TypedExprTree, TypedStmtTree}
use Rattle.cas_step.specs.Answered.{Got, got, got_stuck, answered}
use Rattle.cas_step.specs.Asks.{Value, word, pointer}
use Rattle.cas_step.specs.Env.{Entity, function, shared, Env}
use Rattle.cas_step.specs.Evaluate.{value_of}
use Rattle.cas_step.proofs.Running.{at, stmts, function_of, modules_of, module_of, number, int, set, print, ended, bad, outcome, told, told_places, thread}

-- places

abbrev column : List TypedStmtTree → List (ℕ × ℕ)
column body = told_places (module_of (function_of Void (Int I32 ∷ []) body ∷ []) []) []

abbrev skip : ℕ → TypedStmtTree
skip col = t.skip (at col)

abbrev less_than_one : TypedExprTree
less_than_one = t.binary bin.Lt Signed (t.local 0) (number 1)

abbrev up : ℕ → TypedStmtTree
up col = set col 0 (t.binary bin.Add Signed (t.local 0) (number 1))

-- while (i < 1) i += 1; at 1 and 2, and the closing brace at 99; a do, whose while is at its own place; a for, whose
-- test is at its place, its last part at the part's; and a for without a last part, where that step is at the for's
-- place
place_rows :
    map column ((t.while_ (at 1) less_than_one (up 2) ∷ [])
    ∷ (t.do_ (at 1) (up 2) less_than_one ∷ [])
    ∷ (t.for_ (at 1) (t.present (skip 2)) (Some less_than_one) (t.present (up 3)) (skip 4) ∷ [])
    ∷ (t.for_ (at 1) t.absent (Some less_than_one) t.absent (up 4) ∷ []) ∷ [])
    ≡ ((0, 1) ∷ (0, 2) ∷ (0, 1) ∷ (0, 99) ∷ [])
    ∷ ((0, 1) ∷ (0, 2) ∷ (0, 1) ∷ (0, 99) ∷ [])
    ∷ ((0, 1) ∷ (0, 2) ∷ (0, 1) ∷ (0, 4) ∷ (0, 3) ∷ (0, 1) ∷ (0, 99) ∷ [])
    ∷ ((0, 1) ∷ (0, 1) ∷ (0, 4) ∷ (0, 1) ∷ (0, 1) ∷ (0, 99) ∷ []) ∷ []
place_rows = refl

-- two modules, each with a global as item 0: void w(int me) { f(); print(g); } and void f() { h = g + 5; } over
-- words 7 and 8, where the second's g is word 1, and its h the first's g
abbrev two_modules : Env
two_modules = modules_of
    ((function_of Void (Int I32 ∷ []) (t.call (at 1) None 1 (at 0) [] ∷ print 2 (t.global 0 (at 0)) ∷ []) ∷ [])
    ∷ (function_of Void [] (t.assign (at 3) (t.to_global 1 (at 0))
    (int (t.binary bin.Add Signed (t.global 0 (at 0)) (number 5))) ∷ []) ∷ []) ∷ [])
    ((shared 0 1 None ∷ function (record { unit = 1; place = 0 }) ∷ []) ∷ (shared 1 1 None ∷ shared 0 1 None ∷ []) ∷ [])

second_module : told two_modules (7 ∷ 8 ∷ []) ≡ outcome ended (13 ∷ []) (13 ∷ 8 ∷ [])
second_module = refl

second_module_places : told_places two_modules (7 ∷ 8 ∷ []) ≡ (0, 1) ∷ (1, 3) ∷ (1, 99) ∷ (0, 2) ∷ (0, 99) ∷ []
second_module_places = refl

-- void f(int n, int *p) { int x; if (n == 0) { *p = 9; return; } x = n; f(n - 1, &x); print(x); } with f(2, 0): the
-- innermost writes the x of the activation that called it, and no other
same_function : thread [] (function_of Void (Int I32 ∷ Ptr I32 ∷ Int I32 ∷ [])
    (t.if_ (at 1) (t.binary bin.Eq Signed (t.local 0) (number 0))
    (t.block (at 2)
    (stmts (t.assign (at 3) (t.to_behind I32 (t.local 1)) (int (number 9)) ∷ t.return_ (at 4) None ∷ []))) t.absent
    ∷ set 5 2 (t.local 0)
    ∷ t.call (at 6) None 0 (at 0) (int (t.binary bin.Sub Signed (t.local 0) (number 1)) ∷ t.place_of 2 ∷ [])
    ∷ print 7 (t.local 2) ∷ []) ∷ [])
    (function (record { unit = 0; place = 1 }) ∷ [])
    (t.call (at 1) None 0 (at 0) (int (number 2) ∷ t.null ∷ []) ∷ []) ≡ outcome ended (9 ∷ 2 ∷ []) []
same_function = refl

-- int *p; *p = 1 / 0; the target's cell comes first
null_first : thread (Ptr I32 ∷ []) [] [] (t.assign (at 1) (t.to_behind I32 (t.local 1))
    (int (t.binary bin.Div Signed (number 1) (number 0))) ∷ []) ≡ outcome (bad Null 1) [] []
null_first = refl

-- int *f() { int x; return &x; } with p = f(); print(p == p);
dead_itself : thread (Ptr I32 ∷ []) (function_of (Ptr I32) (Int I32 ∷ []) (t.return_ (at 0) (Some (t.place_of 0)) ∷ [])
    ∷ []) (function (record { unit = 0; place = 1 }) ∷ [])
    (t.call (at 1) (Some (record { local = 1; ty = Ptr I32 })) 0 (at 0) [] ∷ print 2
    (t.compare bin.Eq (t.local 1) (t.local 1)) ∷ []) ≡ outcome (bad Dead 2) [] []
dead_itself = refl

-- a module alone

-- its own objects, by the number of a local, and the outside's
data Object : Type 0 where
  own : ℕ → Object
  theirs : ℕ → Object

-- local 0 is a pointer to the second cell of the outside's object 4, which has two cells
abbrev cells : Object → Option (List (Value Object))
cells (own n) = Some (pointer (theirs 4) 1 ∷ [])
cells (theirs n) = Some (word 30 ∷ word 40 ∷ [])

-- word 1 is in the share, and no other
abbrev share : (number : ℕ) → Option ℕ
share n = if nat_eq n 1 then Some 7 else None

abbrev globals : ℕ → Option Entity
globals g = Some (shared g 1 None)

abbrev alone : TypedExprTree → Got (Value Object)
alone a = answered globals share cells (value_of (record { entity = globals; own = own; same = λ a b. false }) a)

-- *p; g and *p, with g in the share; g + h, with h outside it: the word that was read before is told
alone_rows : map alone (t.behind I32 (t.local 0) ∷ t.binary bin.Add Signed (t.global 1 (at 0))
    (t.behind I32 (t.local 0)) ∷ t.binary bin.Add Signed (t.global 1 (at 0)) (t.global 2 (at 0)) ∷ [])
    ≡ got [] (word 40) ∷ got (1 ∷ []) (word 47) ∷ got_stuck (1 ∷ []) ∷ []
alone_rows = refl

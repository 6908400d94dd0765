-- Small programs, run.
use Rattle.std.proofs.Common.{◌≡◌, ℕ, List, [], ◌∷◌, Option, Some, None, refl}
use Rattle.std.specs.Prelude.{map}
use Rattle.cas_base.specs.declared.act.Act.{Act}
use Rattle.cas_base.specs.declared.act.Act.TheVariants as act
use Rattle.cas_base.specs.declared.act.Why.TheVariants.{DivZero, DivRange, Index, Null, Dead, Across}
use Rattle.cas_base.specs.declared.kind.Kind.TheVariants.{I8, I32}
use Rattle.cas_base.specs.declared.kind.Ty.{Ty}
use Rattle.cas_base.specs.declared.kind.Ty.TheVariants.{Void, Int, Ptr, Array}
use Rattle.cas_syntax.specs.declared.tree.BinaryOperator.TheVariants as bin
use Rattle.cas_typed.specs.declared.tree.Destination.{Destination}
use Rattle.cas_typed.specs.declared.tree.Signedness.TheVariants.{Signed}
use Rattle.cas_typed.specs.Resolved as t
use Rattle.cas_typed.specs.Resolved.{TypedExprTree, TypedStmtTree}
use Rattle.cas_step.proofs.Running.{at, stmts, function_of, module_of, number, int, set, point, print, ended, bad, Outcome, outcome, told, thread}
use Rattle.cas_step.specs.Asks.{word}
use Rattle.cas_step.specs.Env.{Entity, function, shared, table, lock}
use Rattle.cas_step.specs.Step.{Step, step, start}

-- print(a / b);
abbrev divided : ℕ → ℕ → Outcome
divided a b = thread [] [] [] (print 1 (t.binary bin.Div Signed (number a) (number b)) ∷ [])

-- 7 / -2, 1 / 0, -2147483648 / -1
division_rows : divided 7 4294967294 ∷ divided 1 0 ∷ divided 2147483648 4294967295 ∷ []
    ≡ outcome ended (4294967293 ∷ []) [] ∷ outcome (bad DivZero 1) [] [] ∷ outcome (bad DivRange 1) [] [] ∷ []
division_rows = refl

-- int a[3]; int x; int y; int *p; with local 0 the parameter
abbrev with_pointers : List TypedStmtTree → Outcome
with_pointers body = thread (Array I32 3 ∷ Int I32 ∷ Int I32 ∷ Ptr I32 ∷ []) [] [] body

abbrev plus : TypedExprTree → ℕ → TypedExprTree
plus p n = t.pointer_plus Signed p (number n)

-- print(*p); p = a + 3; print(*p); p = a + 4; print(a + 3 - a); x = 5; y = *&x; print(&x == &y); print(&x < &y);
-- print(&x + 1 == &y);
pointer_rows :
    map with_pointers ((print 1 (t.behind I32 (t.local 4)) ∷ [])
    ∷ (point 1 4 (plus (t.place_of 1) 3) ∷ print 2 (t.behind I32 (t.local 4)) ∷ [])
    ∷ (point 1 4 (plus (t.place_of 1) 4) ∷ [])
    ∷ (print 1 (t.pointer_difference (plus (t.place_of 1) 3) (t.place_of 1)) ∷ [])
    ∷ (t.assign (at 1) (t.to_behind I32 (t.place_of 2)) (int (number 5)) ∷ print 2 (t.local 2) ∷ print 3
    (t.compare bin.Eq (t.place_of 2) (t.place_of 3)) ∷ print 4 (t.compare bin.Lt (t.place_of 2) (t.place_of 3))
    ∷ [])
    ∷ (print 1 (t.compare bin.Eq (plus (t.place_of 2) 1) (t.place_of 3)) ∷ [])
    ∷ (print 1 (t.compare bin.Eq (t.local 4) t.null) ∷ print 2 (t.compare bin.Ne (t.place_of 2) t.null) ∷ print 3
    (t.compare bin.Lt (t.local 4) (t.place_of 2)) ∷ []) ∷ [])
    ≡ outcome (bad Null 1) [] [] ∷ outcome (bad Index 2) [] [] ∷ outcome (bad Index 1) [] [] ∷ outcome ended (3 ∷ []) []
    ∷ outcome (bad Across 4) (5 ∷ 0 ∷ []) [] ∷ outcome (bad Across 1) [] [] ∷ outcome (bad Null 3) (1 ∷ 1 ∷ []) [] ∷ []
pointer_rows = refl

-- loops

abbrev add_to : (column local : ℕ) → ℕ → TypedStmtTree
add_to col n k = set col n (t.binary bin.Add Signed (t.local n) (number k))

abbrev is : ℕ → ℕ → TypedExprTree
is n k = t.binary bin.Eq Signed (t.local n) (number k)

abbrev less : ℕ → ℕ → TypedExprTree
less n k = t.binary bin.Lt Signed (t.local n) (number k)

abbrev block : List TypedStmtTree → TypedStmtTree
block body = t.block (at 0) (stmts body)

abbrev when : TypedExprTree → TypedStmtTree → TypedStmtTree
when c a = t.if_ (at 0) c a t.absent

-- if (i == 1) continue; if (i == 3) break; print(i);
abbrev turn : List TypedStmtTree
turn = when (is 1 1) (t.continue_ (at 0)) ∷ when (is 1 3) (t.break_ (at 0)) ∷ print 5 (t.local 1) ∷ []

-- for (i = 0; i < 9; i += 1) { .. } print(i);   i = -1; while (i < 9) { i += 1; .. } print(i);   i = -1; do { i +=
-- 1; .. } while (i < 9); print(i); for (;;) { if (i == 2) break; i += 1; } print(i);   do i += 1; while (0);
-- print(i);   a break in an inner loop: for (; i < 2; i += 1) { while (1) break; print(i); }
loop_rows :
    map (thread (Int I32 ∷ []) [] [])
    ((t.for_ (at 1) (t.present (set 2 1 (number 0))) (Some (less 1 9)) (t.present (add_to 3 1 1)) (block turn) ∷ print 6
    (t.local 1) ∷ [])
    ∷ (set 1 1 (number 4294967295) ∷ t.while_ (at 2) (less 1 9) (block (add_to 3 1 1 ∷ turn)) ∷ print 6
    (t.local 1) ∷ [])
    ∷ (set 1 1 (number 4294967295) ∷ t.do_ (at 2) (block (add_to 3 1 1 ∷ turn)) (less 1 9) ∷ print 6 (t.local 1) ∷ [])
    ∷ (t.for_ (at 1) t.absent None t.absent (block (when (is 1 2) (t.break_ (at 2)) ∷ add_to 3 1 1 ∷ [])) ∷ print 6
    (t.local 1) ∷ [])
    ∷ (t.do_ (at 1) (add_to 2 1 1) (number 0) ∷ print 6 (t.local 1) ∷ [])
    ∷ (t.for_ (at 1) t.absent (Some (less 1 2)) (t.present (add_to 3 1 1))
    (block (t.while_ (at 2) (number 1) (t.break_ (at 2)) ∷ print 4 (t.local 1) ∷ [])) ∷ []) ∷ [])
    ≡ outcome ended (0 ∷ 2 ∷ 3 ∷ []) [] ∷ outcome ended (0 ∷ 2 ∷ 3 ∷ []) [] ∷ outcome ended (0 ∷ 2 ∷ 3 ∷ []) []
    ∷ outcome ended (2 ∷ []) [] ∷ outcome ended (1 ∷ []) [] ∷ outcome ended (0 ∷ 1 ∷ []) [] ∷ []
loop_rows = refl

-- int i; for (i = 0; i < 3; i += 1) { int x; { int x; x = 8; } x += 2; print(x); }: the inner x is a local of its
-- own, and neither begins anew
shadow_row : thread (Int I32 ∷ Int I32 ∷ Int I32 ∷ []) [] []
    (t.for_ (at 1) (t.present (set 2 1 (number 0))) (Some (less 1 3)) (t.present (add_to 3 1 1))
    (block (t.skip (at 4) ∷ block (t.skip (at 5) ∷ set 6 3 (number 8) ∷ []) ∷ add_to 7 2 2 ∷ print 8
    (t.local 2) ∷ [])) ∷ [])
    ≡ outcome ended (2 ∷ 4 ∷ 6 ∷ []) []
shadow_row = refl

-- calls

abbrev call : (column : ℕ) → Option Destination → List TypedExprTree → TypedStmtTree
call col kept args = t.call (at col) kept 0 (at 0) args

abbrev kept : (local : ℕ) → Ty → Option Destination
kept n ty = Some (record { local = n; ty = ty })

-- the second function of the module
abbrev second : Entity
second = function (record { unit = 0; place = 1 })

abbrev return : Option TypedExprTree → TypedStmtTree
return a = t.return_ (at 0) a

-- void f(int *p) { *p = 7; } with x = 3; f(&x); print(x);
older_row : thread (Int I32 ∷ []) (function_of Void (Ptr I32 ∷ [])
    (t.assign (at 0) (t.to_behind I32 (t.local 0)) (int (number 7)) ∷ []) ∷ []) (second ∷ [])
    (set 1 1 (number 3) ∷ call 2 None (t.place_of 1 ∷ []) ∷ print 3 (t.local 1) ∷ []) ≡ outcome ended (7 ∷ []) []
older_row = refl

-- int *f() { int x; return &x; } with p = f(); q = p; print(1); and then print(*p), print(p == 0), p + 0, p - p
dead_rows :
    map (λ last. thread (Ptr I32 ∷ Ptr I32 ∷ []) (function_of (Ptr I32) (Int I32 ∷ [])
    (return (Some (t.place_of 0)) ∷ []) ∷ []) (second ∷ [])
    (call 1 (kept 1 (Ptr I32)) [] ∷ point 2 2 (t.local 1) ∷ print 3 (number 1) ∷ last ∷ []))
    (print 4 (t.behind I32 (t.local 2)) ∷ print 4 (t.compare bin.Eq (t.local 2) t.null) ∷ point 4 2 (plus (t.local 2) 0)
    ∷ print 4 (t.pointer_difference (t.local 2) (t.local 1)) ∷ [])
    ≡ outcome (bad Dead 4) (1 ∷ []) [] ∷ outcome (bad Dead 4) (1 ∷ []) [] ∷ outcome (bad Dead 4) (1 ∷ []) [] ∷ outcome
    (bad Dead 4) (1 ∷ []) [] ∷ []
dead_rows = refl

-- int r(int n) { int x; if (n == 0) return 0; x = r(n - 1); return x + 1; } with y = r(4); print(y);
recursion_row : thread (Int I32 ∷ [])
    (function_of (Int I32) (Int I32 ∷ Int I32 ∷ []) (when (is 0 0) (return (Some (int (number 0)))) ∷ call 2
    (kept 1 (Int I32)) (int (t.binary bin.Sub Signed (t.local 0) (number 1)) ∷ []) ∷ return
    (Some (int (t.binary bin.Add Signed (t.local 1) (number 1)))) ∷ []) ∷ [])
    (second ∷ []) (call 1 (kept 1 (Int I32)) (int (number 4) ∷ []) ∷ print 2 (t.local 1) ∷ []) ≡ outcome ended
    (4 ∷ []) []
recursion_row = refl

-- int f() {} with x = 5; x = f(); print(x);   int f() { return 200; } with char x; x = f(); print(x);
falling_rows :
    thread (Int I32 ∷ []) (function_of (Int I32) [] [] ∷ []) (second ∷ [])
    (set 1 1 (number 5) ∷ call 2 (kept 1 (Int I32)) [] ∷ print 3 (t.local 1) ∷ [])
    ∷ thread (Int I8 ∷ []) (function_of (Int I32) [] (return (Some (int (number 200))) ∷ []) ∷ []) (second ∷ [])
    (call 2 (kept 1 (Int I8)) [] ∷ print 3 (t.local 1) ∷ []) ∷ []
    ≡ outcome ended (0 ∷ []) [] ∷ outcome ended (4294967240 ∷ []) [] ∷ []
falling_rows = refl

-- globals

-- lock L; shared(L) int g; const int c[2] = {5, 6}; shared(L) int b[2];
abbrev items : List Entity
items = lock 0 ∷ shared 1 1 (Some 0) ∷ table 2 2 ∷ shared 4 2 (Some 0) ∷ []

abbrev over_words : List TypedStmtTree → Outcome
over_words body = told (module_of (function_of Void (Int I32 ∷ Int I32 ∷ []) body ∷ []) items)
    (1 ∷ 3 ∷ 5 ∷ 6 ∷ 8 ∷ 9 ∷ [])

abbrev element : (item : ℕ) → TypedExprTree → TypedExprTree
element g a = t.element g (at 0) Signed a

-- lock(L); g = g + c[1]; b[1] = g; unlock(L);   b[2] = 1 / 0;   print(b[-1]);
global_rows :
    map over_words
    ((t.lock (at 1) 0 ∷ t.assign (at 2) (t.to_global 1 (at 0))
    (int (t.binary bin.Add Signed (t.global 1 (at 0)) (element 2 (number 1))))
    ∷ t.assign (at 3) (t.to_element 3 (at 0) Signed (number 1)) (int (t.global 1 (at 0))) ∷ t.unlock (at 4) 0 ∷ [])
    ∷ (t.assign (at 1) (t.to_element 3 (at 0) Signed (number 2)) (int (t.binary bin.Div Signed (number 1) (number 0)))
    ∷ [])
    ∷ (print 1 (element 3 (number 4294967295)) ∷ []) ∷ [])
    ≡ outcome ended [] (1 ∷ 9 ∷ 5 ∷ 6 ∷ 8 ∷ 9 ∷ []) ∷ outcome (bad Index 1) [] (1 ∷ 3 ∷ 5 ∷ 6 ∷ 8 ∷ 9 ∷ []) ∷ outcome
    (bad Index 1) [] (1 ∷ 3 ∷ 5 ∷ 6 ∷ 8 ∷ 9 ∷ []) ∷ []
global_rows = refl

-- what a step reads, writes and does, and where
pub record Seen : Type 0 where
  pub act : Act
  pub reads : List ℕ
  pub writes : List ℕ
  pub column : ℕ

abbrev seen : Option Step → Option Seen
seen None = None
seen (Some s) = Some (record { act = s.act; reads = s.reads; writes = s.writes; column = s.place.col })

-- the first step of this statement over those words
abbrev first_step : TypedStmtTree → Option Seen
first_step a = let e = module_of (function_of Void (Int I32 ∷ []) (a ∷ []) ∷ []) items in
    seen (step e (1 ∷ 3 ∷ 5 ∷ 6 ∷ 8 ∷ 9 ∷ []) (start e (record { unit = 0; place = 0 }) (word 0 ∷ [])))

-- b[g - 3] = c[0] + b[1];   print(g / c[g - 3] / (g - 3) / b[0]);   lock(L);
footprint_rows :
    map first_step
    (t.assign (at 2) (t.to_element 3 (at 0) Signed (t.binary bin.Sub Signed (t.global 1 (at 0)) (number 3)))
    (int (t.binary bin.Add Signed (element 2 (number 0)) (element 3 (number 1))))
    ∷ print 3
    (t.binary bin.Div Signed (t.binary bin.Div Signed (t.global 1 (at 0))
    (t.binary bin.Sub Signed (t.global 1 (at 0)) (number 3))) (element 3 (number 0)))
    ∷ t.lock (at 4) 0 ∷ [])
    ≡ Some (record { act = act.Quiet; reads = 1 ∷ 5 ∷ []; writes = 4 ∷ []; column = 2 })
    ∷ Some (record { act = act.Bad DivZero; reads = 1 ∷ 1 ∷ []; writes = []; column = 3 })
    ∷ Some (record { act = act.Lock 0; reads = []; writes = []; column = 4 }) ∷ []
footprint_rows = refl

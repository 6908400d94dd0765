-- Small bodies, walked.
use Rattle.std.proofs.Common.{◌≡◌, ℕ, true, List, [], ◌∷◌, Option, Some, None, refl}
use Rattle.std.specs.Prelude.{map, codes}
use Rattle.cas_base.specs.declared.decl.Decl.{Decl}
use Rattle.cas_base.specs.declared.decl.Form.{Form}
use Rattle.cas_base.specs.declared.decl.Form.TheVariants.{Lock, Shared, Table, Function}
use Rattle.cas_base.specs.declared.kind.Kind.TheVariants.{I32}
use Rattle.cas_base.specs.declared.kind.Ty.TheVariants.{Void, Int}
use Rattle.cas_base.specs.declared.place.Place.{Place}
use Rattle.cas_own.specs.Checked.{OwnFaultTree, own_fault}
use Rattle.cas_own.specs.Flow.{Flow, on, fault, body_flow, sets_of_body}
use Rattle.cas_own.specs.Locks.{Locks}
use Rattle.cas_own.specs.declared.fault.OwnCode.TheVariants.{O1, O2, O3, O4, O5, O6, O7, O8}
use Rattle.cas_syntax.specs.Tree.{ItemTree, global, prototype}
use Rattle.cas_typed.specs.Resolved as t
use Rattle.cas_typed.specs.Resolved.{TypedExprTree, TypedStmtTree, TypedStmtList, no_more, one_more, absent, present}

-- the place in this column of line 1
abbrev at : ℕ → Place
at n = record { line = 1; col = n }

abbrev declared : List ℕ → Form → Decl
declared name form = record { name = name; form = form; defined = true }

-- lock L; lock M; shared(M) int g; const int t; void f(void) holds(M, L);
abbrev decls : List Decl
decls =
    declared (codes "L") Lock ∷ declared (codes "M") Lock ∷ declared (codes "g") (Shared (Int I32) (codes "M"))
    ∷ declared (codes "t") (Table (Int I32)) ∷ declared (codes "f") (Function Void [] (codes "M" ∷ codes "L" ∷ [])) ∷ []

abbrev stmts : List TypedStmtTree → TypedStmtList
stmts [] = no_more
stmts (a ∷ as_) = one_more a (stmts as_)

abbrev walked : (own : Locks) → List TypedStmtTree → Flow
walked own body = body_flow decls own (at 99) (stmts body)

abbrev lock : (column item : ℕ) → TypedStmtTree
lock n l = t.lock (at n) l

abbrev unlock : (column item : ℕ) → TypedStmtTree
unlock n l = t.unlock (at n) l

-- g, t and me
abbrev g : (column : ℕ) → TypedExprTree
g n = t.global 2 (at n)

abbrev table : (column : ℕ) → TypedExprTree
table n = t.global 3 (at n)

abbrev me : TypedExprTree
me = t.local 0

abbrev print : (column : ℕ) → TypedExprTree → TypedStmtTree
print n a = t.print (at n) a

abbrev block : List TypedStmtTree → TypedStmtTree
block body = t.block (at 50) (stmts body)

-- print(g); lock(M) print(g) unlock(M); lock(L) print(g); print(t); lock(M) lock(M); unlock(M); lock(M); f() without
-- a lock, with M alone, with both; f(g) without a lock; lock(L) return g
straight_rows :
    map (walked []) ((print 1 (g 2) ∷ []) ∷ (lock 1 1 ∷ print 2 (g 3) ∷ unlock 4 1 ∷ []) ∷
    (lock 1 0 ∷ print 2 (g 3) ∷ [])
    ∷ (print 1 (table 2) ∷ []) ∷ (lock 1 1 ∷ lock 2 1 ∷ []) ∷ (unlock 1 1 ∷ []) ∷ (lock 1 1 ∷ [])
    ∷ (t.call (at 1) None 4 (at 2) [] ∷ []) ∷ (lock 1 1 ∷ t.call (at 2) None 4 (at 3) (g 4 ∷ []) ∷ [])
    ∷ (lock 1 1 ∷ lock 2 0 ∷ t.call (at 3) None 4 (at 4) [] ∷ unlock 5 1 ∷ unlock 6 0 ∷ [])
    ∷ (t.call (at 1) None 4 (at 2) (g 4 ∷ []) ∷ []) ∷ (lock 1 0 ∷ t.return_ (at 2) (Some (g 3)) ∷ []) ∷ [])
    ≡ fault O1 (at 2) 1 ∷ on None ∷ fault O1 (at 3) 1
    ∷ on None ∷ fault O6 (at 2) 1 ∷ fault O7 (at 1) 1 ∷ fault O5 (at 99) 1
    ∷ fault O2 (at 2) 1 ∷ fault O2 (at 3) 0
    ∷ on None ∷ fault O1 (at 4) 1 ∷ fault O1 (at 3) 1 ∷ []
straight_rows = refl

-- of a function that holds M: print(g);   unlock(M);   unlock(M); lock(M);
held_rows :
    map (walked (1 ∷ [])) ((print 1 (g 2) ∷ []) ∷ (unlock 1 1 ∷ []) ∷ (unlock 1 1 ∷ lock 2 1 ∷ []) ∷ [])
    ≡ on None ∷ fault O5 (at 99) 1 ∷ on None ∷ []
held_rows = refl

-- lock(L); if (me) { unlock(L); } print(1); unlock(L);   if (me) lock(L); else lock(L); unlock(L);
-- lock(L); if (me) { unlock(L); return; } unlock(L);   lock(L); return;
branch_rows :
    map (walked [])
    ((lock 1 0 ∷ t.if_ (at 2) me (block (unlock 3 0 ∷ [])) absent ∷ print 4 (t.literal 1) ∷ unlock 5 0 ∷ [])
    ∷ (t.if_ (at 1) me (lock 2 0) (present (lock 3 0)) ∷ unlock 4 0 ∷ [])
    ∷ (lock 1 0 ∷ t.if_ (at 2) me (block (unlock 3 0 ∷ t.return_ (at 4) None ∷ [])) absent ∷ unlock 5 0 ∷ [])
    ∷ (lock 1 0 ∷ t.return_ (at 2) None ∷ print 3 (g 4) ∷ []) ∷ [])
    ≡ fault O3 (at 2) 0 ∷ on None ∷ on None ∷ fault O5 (at 2) 0 ∷ []
branch_rows = refl

-- while (me) { lock(L); }   while (me) { lock(L); unlock(L); }   while (me) { lock(L); if (me) break; unlock(L); }
-- lock(M); do { unlock(M); lock(M); } while (g); unlock(M);   do { return; } while (g);   do { lock(M); return; }
-- while (g); for (g = me; ; ) ;   for (; me; print(g)) break; while (me) { if (me) { lock(L); break; } print(g); }
-- while (me) { lock(L); while (me) break; unlock(L); }
loop_rows :
    map (walked []) ((t.while_ (at 1) me (block (lock 2 0 ∷ [])) ∷ [])
    ∷ (t.while_ (at 1) me (block (lock 2 0 ∷ unlock 3 0 ∷ [])) ∷ [])
    ∷ (t.while_ (at 1) me (block (lock 2 0 ∷ t.if_ (at 3) me (t.break_ (at 4)) absent ∷ unlock 5 0 ∷ [])) ∷ [])
    ∷ (lock 1 1 ∷ t.do_ (at 2) (block (unlock 3 1 ∷ lock 4 1 ∷ [])) (g 5) ∷ unlock 6 1 ∷ [])
    ∷ (t.do_ (at 1) (block (t.return_ (at 2) None ∷ [])) (g 3) ∷ [])
    ∷ (t.do_ (at 1) (block (lock 2 1 ∷ t.return_ (at 3) None ∷ [])) (g 4) ∷ [])
    ∷ (t.for_ (at 1) (present (t.assign (at 2) (t.to_global 2 (at 3)) me)) None absent (t.skip (at 4)) ∷ [])
    ∷ (t.for_ (at 1) absent (Some me) (present (print 2 (g 3))) (t.break_ (at 4)) ∷ [])
    ∷ (t.while_ (at 1) me
    (block (t.if_ (at 2) me (block (lock 3 0 ∷ t.break_ (at 4) ∷ [])) absent ∷ print 5 (g 6) ∷ [])) ∷ [])
    ∷ (t.while_ (at 1) me (block (lock 2 0 ∷ t.while_ (at 3) me (t.break_ (at 4)) ∷ unlock 5 0 ∷ [])) ∷ []) ∷ [])
    ≡ fault O4 (at 1) 0 ∷ on None ∷ fault O4 (at 1) 0 ∷ on None ∷ fault O1 (at 3) 1 ∷ fault O5 (at 3) 1 ∷ fault O1
    (at 3) 1 ∷ fault O1 (at 3) 1
    ∷ fault O4 (at 1) 0 ∷ on None ∷ []
loop_rows = refl

-- the sets of: lock(M); if (me) { unlock(M); return; } else unlock(M); print(me); return; print(me);
sets_row :
    sets_of_body decls []
    (stmts (lock 1 1 ∷ t.if_ (at 2) me (block (unlock 3 1 ∷ t.return_ (at 4) None ∷ [])) (present (unlock 5 1))
    ∷ print 6 me ∷ t.return_ (at 7) None ∷ print 8 me ∷ []))
    ≡ Some [] ∷ Some (1 ∷ []) ∷ Some (1 ∷ []) ∷ Some (1 ∷ []) ∷ Some [] ∷ Some (1 ∷ []) ∷ Some [] ∷ Some [] ∷ None ∷ []
sets_row = refl

-- the faults of items: a guard that isn't declared, one that is declared later, a function's name, and one that a
-- lock declares before
abbrev shared_at : (column : ℕ) → (guard : List ℕ) → ItemTree
shared_at n guard = global (declared (codes "g") (Shared (Int I32) guard)) (0 ∷ []) (at n)

abbrev of_items : List ItemTree → Option OwnFaultTree
of_items items = own_fault (record { module_tree = record { items = items }; functions = [] })

abbrev a_lock : ItemTree
a_lock = global (declared (codes "L") Lock) [] (at 90)

abbrev a_function : ItemTree
a_function = prototype (declared (codes "f") (Function Void [] [])) [] (at 91)

guard_rows :
    map of_items ((shared_at 1 (codes "X") ∷ []) ∷ (shared_at 2 (codes "L") ∷ a_lock ∷ []) ∷
    (a_function ∷ shared_at 3 (codes "f") ∷ [])
    ∷ (a_lock ∷ shared_at 4 (codes "L") ∷ []) ∷ [])
    ≡ Some (record { code = O8; place = at 1; lock = codes "X" }) ∷ Some
    (record { code = O8; place = at 2; lock = codes "L" })
    ∷ Some (record { code = O8; place = at 3; lock = codes "f" }) ∷ None ∷ []
guard_rows = refl

-- The rules of types, computed: each form at types that fit, and beyond.
use Rattle.std.proofs.Common.{◌≡◌, ℕ, List, [], ◌∷◌, map, Option, Some, None, Result, Ok, Err, refl}
use Rattle.std.specs.Prelude.{codes, true, false}
use Rattle.cas_base.specs.declared.decl.Decl.{Decl}
use Rattle.cas_base.specs.declared.decl.Form.{Form}
use Rattle.cas_base.specs.declared.decl.Form.TheVariants.{Lock, Shared, Table, Function}
use Rattle.cas_base.specs.declared.kind.Kind.TheVariants.{I8, U8, I16, U16, I32, U32}
use Rattle.cas_base.specs.declared.kind.Ty.{Ty}
use Rattle.cas_base.specs.declared.kind.Ty.TheVariants.{Void, Int, Ptr, Array}
use Rattle.cas_base.specs.declared.place.Place.{Place}
use Rattle.cas_syntax.specs.declared.tree.Ident.{Ident}
use Rattle.cas_syntax.specs.declared.tree.UnaryOperator.TheVariants.{Neg, Plus, BitNot, Not}
use Rattle.cas_syntax.specs.declared.tree.BinaryOperator.TheVariants.{Add, Sub, Mul, Div, Mod, Shl, Shr, BitAnd, Eq, Ne, Lt, Le, Gt, Ge}
use Rattle.cas_syntax.specs.Tree.{ExprTree, literal, name, index, deref, address, address_index, unary, cast, binary, and_also, or_else, conditional, to_name, to_index, to_deref, InitTree, nothing, value, StmtTree, skip, declare, assign, call, block, if_, while_, for_, break_, continue_, return_, lock, print, absent, present, StmtList, no_more, one_more}
use Rattle.cas_typed.specs.declared.fault.TypeCode.{TypeCode}
use Rattle.cas_typed.specs.declared.fault.TypeCode.TheVariants.{T1, T2, T3, T4, T5, T6, T7}
use Rattle.cas_typed.specs.declared.tree.Signedness.TheVariants.{Signed, Unsigned}
use Rattle.cas_typed.specs.Faults.{Fault, fault}
use Rattle.cas_typed.specs.Resolved as t
use Rattle.cas_typed.specs.Resolving.{Found, unfit, fits, resolved}
use Rattle.cas_typed.specs.Scopes.{Scope, Bound}
use Rattle.cas_typed.specs.Walk.{walk, walk_list}

abbrev at : ℕ → Place
at col = record { line = 1; col = col }

-- a name in column 9
abbrev named : List ℕ → Ident
named x = record { name = x; place = at 9 }

abbrev bound : List ℕ → ℕ → Ty → Bound
bound x n ty = record { name = x; number = n; ty = ty }

abbrev declared : List ℕ → Form → Decl
declared x form = record { name = x; form = form; defined = true }

-- char c; unsigned char h; short i; unsigned short j; int x; unsigned u; int *p; char *d; int a[3], behind
-- lock L; shared(L) int g; shared(L) char b[4]; const int t[2]; int f(int, int *); void v(void);
abbrev here : Scope
here = record {
  block = [];
  around = bound (codes "c") 0 (Int I8) ∷ bound (codes "h") 1 (Int U8) ∷ bound (codes "i") 2 (Int I16) ∷ bound
      (codes "j") 3 (Int U16)
      ∷ bound (codes "x") 4 (Int I32) ∷ bound (codes "u") 5 (Int U32) ∷ bound (codes "p") 6 (Ptr I32) ∷ bound
      (codes "d") 7 (Ptr I8)
      ∷ bound (codes "a") 8 (Array I32 3) ∷ [];
  decls = declared (codes "L") Lock ∷ declared (codes "g") (Shared (Int I32) (codes "L")) ∷ declared (codes "b")
      (Shared (Array I8 4) (codes "L"))
      ∷ declared (codes "t") (Table (Array I32 2)) ∷ declared (codes "f")
      (Function (Int I32) (Int I32 ∷ Ptr I32 ∷ []) [])
      ∷ declared (codes "v") (Function Void [] []) ∷ [];
  count = 9;
}

abbrev x_ : List ℕ → ExprTree
x_ text = name (named text)

abbrev zero_ : ExprTree
zero_ = literal 0 I32

abbrev one_ : ExprTree
one_ = literal 1 I32

-- the type of an expression, if it has one
abbrev type_found : Found → Option Ty
type_found (fits e ty) = Some ty
type_found unfit = None

abbrev types : List ExprTree → List (Option Ty)
types es = map (λ e. type_found (resolved here e)) es

abbrev int : Option Ty
int = Some (Int I32)

abbrev unsigned : Option Ty
unsigned = Some (Int U32)

abbrev pointer : Option Ty
pointer = Some (Ptr I32)

-- c + h, i * j, x / u, u % c, c - 1u, c & c, p * 1, p & p
arithmetic_types :
    types (binary Add (x_ (codes "c")) (x_ (codes "h")) ∷ binary Mul (x_ (codes "i")) (x_ (codes "j")) ∷ binary Div
    (x_ (codes "x")) (x_ (codes "u"))
    ∷ binary Mod (x_ (codes "u")) (x_ (codes "c")) ∷ binary Sub (x_ (codes "c")) (literal 1 U32) ∷ binary BitAnd
    (x_ (codes "c")) (x_ (codes "c"))
    ∷ binary Mul (x_ (codes "p")) one_ ∷ binary BitAnd (x_ (codes "p")) (x_ (codes "p")) ∷ [])
    ≡ int ∷ int ∷ unsigned ∷ unsigned ∷ unsigned ∷ int ∷ None ∷ None ∷ []
arithmetic_types = refl

-- p + u, c + p, p - 1, 1 - p, p + p, a + 1, b + 1, p - p, p - a, p - d
pointer_types :
    types (binary Add (x_ (codes "p")) (x_ (codes "u")) ∷ binary Add (x_ (codes "c")) (x_ (codes "p")) ∷ binary Sub
    (x_ (codes "p")) one_
    ∷ binary Sub one_ (x_ (codes "p")) ∷ binary Add (x_ (codes "p")) (x_ (codes "p")) ∷ binary Add (x_ (codes "a")) one_
    ∷ binary Add (x_ (codes "b")) one_ ∷ binary Sub (x_ (codes "p")) (x_ (codes "p")) ∷ binary Sub (x_ (codes "p"))
    (x_ (codes "a"))
    ∷ binary Sub (x_ (codes "p")) (x_ (codes "d")) ∷ [])
    ≡ pointer ∷ pointer ∷ pointer ∷ None ∷ None ∷ pointer ∷ None ∷ int ∷ int ∷ None ∷ []
pointer_types = refl

-- c << u, u >> c, p << 1, 1 << p
shift_types :
    types (binary Shl (x_ (codes "c")) (x_ (codes "u")) ∷ binary Shr (x_ (codes "u")) (x_ (codes "c")) ∷ binary Shl
    (x_ (codes "p")) one_
    ∷ binary Shl one_ (x_ (codes "p")) ∷ [])
    ≡ int ∷ unsigned ∷ None ∷ None ∷ []
shift_types = refl

-- x == u, p == p, p == d, p == 0, 0 != p, p == 0u, p == 1, p == x
equality_types :
    types (binary Eq (x_ (codes "x")) (x_ (codes "u")) ∷ binary Eq (x_ (codes "p")) (x_ (codes "p")) ∷ binary Eq
    (x_ (codes "p")) (x_ (codes "d"))
    ∷ binary Eq (x_ (codes "p")) zero_ ∷ binary Ne zero_ (x_ (codes "p")) ∷ binary Eq (x_ (codes "p")) (literal 0 U32)
    ∷ binary Eq (x_ (codes "p")) one_ ∷ binary Eq (x_ (codes "p")) (x_ (codes "x")) ∷ [])
    ≡ int ∷ int ∷ None ∷ int ∷ int ∷ None ∷ None ∷ None ∷ []
equality_types = refl

-- c < u, p <= a, p > d, p >= 0
order_types :
    types (binary Lt (x_ (codes "c")) (x_ (codes "u")) ∷ binary Le (x_ (codes "p")) (x_ (codes "a")) ∷ binary Gt
    (x_ (codes "p")) (x_ (codes "d"))
    ∷ binary Ge (x_ (codes "p")) zero_ ∷ [])
    ≡ int ∷ int ∷ None ∷ None ∷ []
order_types = refl

-- x && p, d || u, !a, !v, x && L
test_types :
    types (and_also (x_ (codes "x")) (x_ (codes "p")) ∷ or_else (x_ (codes "d")) (x_ (codes "u")) ∷ unary Not
    (x_ (codes "a"))
    ∷ unary Not (x_ (codes "v")) ∷ and_also (x_ (codes "x")) (x_ (codes "L")) ∷ [])
    ≡ int ∷ int ∷ int ∷ None ∷ None ∷ []
test_types = refl

-- p ? c : u, x ? p : a, x ? p : 0, x ? 0 : p, x ? 0 : 0, x ? p : d, x ? p : 1, L ? 1 : 1
choice_types :
    types (conditional (x_ (codes "p")) (x_ (codes "c")) (x_ (codes "u")) ∷ conditional (x_ (codes "x"))
    (x_ (codes "p")) (x_ (codes "a"))
    ∷ conditional (x_ (codes "x")) (x_ (codes "p")) zero_ ∷ conditional (x_ (codes "x")) zero_ (x_ (codes "p"))
    ∷ conditional (x_ (codes "x")) zero_ zero_
    ∷ conditional (x_ (codes "x")) (x_ (codes "p")) (x_ (codes "d")) ∷ conditional (x_ (codes "x")) (x_ (codes "p"))
    one_
    ∷ conditional (x_ (codes "L")) one_ one_ ∷ [])
    ≡ unsigned ∷ pointer ∷ pointer ∷ pointer ∷ int ∷ None ∷ None ∷ None ∷ []
choice_types = refl

-- -c, +u, ~h, -p, (char) u, (unsigned) c, (int) p
unary_types :
    types (unary Neg (x_ (codes "c")) ∷ unary Plus (x_ (codes "u")) ∷ unary BitNot (x_ (codes "h")) ∷ unary Neg
    (x_ (codes "p"))
    ∷ cast I8 (x_ (codes "u")) ∷ cast U32 (x_ (codes "c")) ∷ cast I32 (x_ (codes "p")) ∷ [])
    ≡ int ∷ unsigned ∷ int ∷ None ∷ Some (Int I8) ∷ unsigned ∷ None ∷ []
unary_types = refl

-- *p, *a, *x, p[u], a[c], b[1], t[1], x[0], g[0], p[p], &x, &a[1], &d[1], &a, &x[0], &L
cell_types :
    types (deref (x_ (codes "p")) ∷ deref (x_ (codes "a")) ∷ deref (x_ (codes "x")) ∷ index (named (codes "p"))
    (x_ (codes "u"))
    ∷ index (named (codes "a")) (x_ (codes "c")) ∷ index (named (codes "b")) one_ ∷ index (named (codes "t")) one_
    ∷ index (named (codes "x")) zero_ ∷ index (named (codes "g")) zero_ ∷ index (named (codes "p")) (x_ (codes "p"))
    ∷ address (named (codes "x")) ∷ address_index (named (codes "a")) one_ ∷ address_index (named (codes "d")) one_
    ∷ address (named (codes "a")) ∷ address_index (named (codes "x")) zero_ ∷ address (named (codes "L")) ∷ [])
    ≡ int ∷ int ∷ None ∷ int ∷ int ∷ Some (Int I8) ∷ int ∷ None ∷ None ∷ None ∷ pointer ∷ pointer ∷ Some
    (Ptr I8) ∷ None ∷ None ∷ None ∷ []
cell_types = refl

-- -1 < 1u, h >> 1, b[u], *(p + c)
readings :
    map (resolved here) (binary Lt (unary Neg one_) (literal 1 U32) ∷ binary Shr (x_ (codes "h")) one_ ∷ index
    (named (codes "b")) (x_ (codes "u"))
    ∷ deref (binary Add (x_ (codes "p")) (x_ (codes "c"))) ∷ [])
    ≡ fits (t.binary Lt Unsigned (t.unary Neg (t.literal 1)) (t.literal 1)) (Int I32)
    ∷ fits (t.binary Shr Signed (t.local 1) (t.literal 1)) (Int I32)
    ∷ fits (t.element 2 (at 9) Unsigned (t.local 5)) (Int I8)
    ∷ fits (t.behind I32 (t.pointer_plus Signed (t.local 6) (t.local 0))) (Int I32) ∷ []
readings = refl

-- statements at column 5

abbrev here_is : StmtTree → Result t.TypedStmtTree Fault
here_is a = walk (Ptr I32) false here a

abbrev sets : List ℕ → ExprTree → StmtTree
sets x a = assign (at 5) (to_name (named x)) None a

-- u += c; c = u; p = 0; *p = c; a[1] = p[1]; b[x] = 1; while (p) ;  return;  x = f(c, 0);
done :
    map here_is (assign (at 5) (to_name (named (codes "u"))) (Some Add) (x_ (codes "c")) ∷ sets (codes "c")
    (x_ (codes "u")) ∷ sets (codes "p") zero_
    ∷ assign (at 5) (to_deref (x_ (codes "p"))) None (x_ (codes "c")) ∷ assign (at 5)
    (to_index (named (codes "a")) one_) None (index (named (codes "p")) one_)
    ∷ assign (at 5) (to_index (named (codes "b")) (x_ (codes "x"))) None one_ ∷ while_ (at 5) (x_ (codes "p"))
    (skip (at 6)) ∷ return_ (at 5) None
    ∷ call (at 5) (Some (named (codes "x"))) (named (codes "f")) (x_ (codes "c") ∷ zero_ ∷ []) ∷ [])
    ≡ Ok (t.assign (at 5) (t.to_local 5) (t.narrow U32 (t.binary Add Unsigned (t.local 5) (t.local 0))))
    ∷ Ok (t.assign (at 5) (t.to_local 0) (t.narrow I8 (t.local 5)))
    ∷ Ok (t.assign (at 5) (t.to_local 6) t.null)
    ∷ Ok (t.assign (at 5) (t.to_behind I32 (t.local 6)) (t.narrow I32 (t.local 0)))
    ∷ Ok (t.assign (at 5) (t.to_behind I32 (t.pointer_plus Signed (t.place_of 8) (t.literal 1)))
    (t.narrow I32 (t.behind I32 (t.pointer_plus Signed (t.local 6) (t.literal 1)))))
    ∷ Ok (t.assign (at 5) (t.to_element 2 (at 9) Signed (t.local 4)) (t.narrow I8 (t.literal 1)))
    ∷ Ok (t.while_ (at 5) (t.compare Ne (t.local 6) t.null) (t.skip (at 6)))
    ∷ Ok (t.return_ (at 5) (Some t.null))
    ∷ Ok (t.call (at 5) (Some (record { local = 4; ty = Int I32 })) 4 (at 9) (t.narrow I32 (t.local 0) ∷ t.null ∷ []))
    ∷ []
done = refl

abbrev refused : TypeCode → Option (List ℕ) → Result t.TypedStmtTree Fault
refused T1 x = Err (fault T1 (at 9) x)
refused T2 x = Err (fault T2 (at 9) x)
refused T4 x = Err (fault T4 (at 9) x)
refused T6 x = Err (fault T6 (at 9) x)
refused code x = Err (fault code (at 5) x)

-- y = 1; lock(y); y(); x = f(1); p = x; p = d; x = v(); print(p); return x; (in a function that gives a pointer)
-- lock(x); x(); x = L; f = 1; t[0] = 1; *x = 1; x[0] = 1; p[p] = 1; g = f(1, 0); x = b; b = 1; p = &g; p = &p;
-- break; continue;
faults :
    map here_is (sets (codes "y") one_ ∷ lock (at 5) (named (codes "y")) ∷ call (at 5) None (named (codes "y")) [] ∷
    call (at 5) (Some (named (codes "x"))) (named (codes "f")) (one_ ∷ []) ∷ sets (codes "p") (x_ (codes "x")) ∷ sets
    (codes "p") (x_ (codes "d")) ∷
    call (at 5) (Some (named (codes "x"))) (named (codes "v")) [] ∷ print (at 5) (x_ (codes "p")) ∷ return_ (at 5)
    (Some (x_ (codes "x"))) ∷
    lock (at 5) (named (codes "x")) ∷ call (at 5) None (named (codes "x")) [] ∷ sets (codes "x") (x_ (codes "L")) ∷ sets
    (codes "f") one_ ∷
    assign (at 5) (to_index (named (codes "t")) zero_) None one_ ∷ assign (at 5) (to_deref (x_ (codes "x"))) None one_ ∷
    assign (at 5) (to_index (named (codes "x")) zero_) None one_ ∷ assign (at 5)
    (to_index (named (codes "p")) (x_ (codes "p"))) None one_ ∷
    call (at 5) (Some (named (codes "g"))) (named (codes "f")) (one_ ∷ zero_ ∷ []) ∷ sets (codes "x") (x_ (codes "b"))
    ∷ sets (codes "b") one_ ∷
    sets (codes "p") (address (named (codes "g"))) ∷ sets (codes "p") (address (named (codes "p"))) ∷ break_
    (at 5) ∷ continue_ (at 5) ∷ [])
    ≡ refused T1 (Some (codes "y")) ∷ refused T1 (Some (codes "y")) ∷ refused T1 (Some (codes "y")) ∷
    refused T4 (Some (codes "f")) ∷ refused T3 None ∷ refused T3 None ∷
    refused T3 None ∷ refused T3 None ∷ refused T3 None ∷
    refused T3 None ∷ refused T3 None ∷ refused T3 None ∷ refused T5 None ∷
    refused T5 None ∷ refused T5 None ∷
    refused T5 None ∷ refused T5 None ∷
    refused T5 None ∷ refused T6 (Some (codes "b")) ∷ refused T6 (Some (codes "b")) ∷
    refused T6 (Some (codes "g")) ∷ refused T6 (Some (codes "p")) ∷ refused T7 None ∷ refused T7 None ∷ []
faults = refl

-- two causes: t[0] = y; x[0] = p; g = f(p); x = f(p); if (y) break; for (int y = 1; y; y = p) break;
orders :
    map here_is (assign (at 5) (to_index (named (codes "t")) zero_) None (x_ (codes "y")) ∷ assign (at 5)
    (to_index (named (codes "x")) zero_) None (x_ (codes "p")) ∷
    call (at 5) (Some (named (codes "g"))) (named (codes "f")) (x_ (codes "p") ∷ []) ∷ call (at 5)
    (Some (named (codes "x"))) (named (codes "f")) (x_ (codes "p") ∷ []) ∷
    if_ (at 5) (x_ (codes "y")) (break_ (at 6)) absent ∷
    for_ (at 4) (present (declare (at 9) (Int I32) (named (codes "y")) (value one_))) (Some (x_ (codes "y")))
    (present (sets (codes "y") (x_ (codes "p")))) (break_ (at 6)) ∷ [])
    ≡ refused T1 (Some (codes "y")) ∷ refused T5 None ∷ refused T5 None ∷ refused T4 (Some (codes "f")) ∷ refused T1
    (Some (codes "y")) ∷ refused T3 None ∷ []
orders = refl

-- scopes: int y; int y;   int y; { int *y; y = 0; } y = 1;   { int y; } y = 1;   char x = x;   int f; f();   int L;
-- lock(L);
abbrev several : StmtList → Result t.TypedStmtList Fault
several bs = walk_list Void false here bs

abbrev local_ : Ty → List ℕ → InitTree → StmtTree
local_ ty x a = declare (at 9) ty (named x) a

abbrev refused_list : TypeCode → Place → Option (List ℕ) → Result t.TypedStmtList Fault
refused_list code p x = Err (fault code p x)

scopes :
    map several (one_more (local_ (Int I32) (codes "y") nothing)
    (one_more (local_ (Int I32) (codes "y") nothing) no_more)
    ∷ one_more (local_ (Int I32) (codes "y") nothing)
    (one_more
    (block (at 5) (one_more (local_ (Ptr I32) (codes "y") nothing) (one_more (sets (codes "y") zero_) no_more)))
    (one_more (sets (codes "y") one_) no_more))
    ∷ one_more (block (at 5) (one_more (local_ (Int I32) (codes "y") nothing) no_more))
    (one_more (sets (codes "y") one_) no_more)
    ∷ one_more (local_ (Int I8) (codes "x") (value (x_ (codes "x")))) no_more
    ∷ one_more (local_ (Int I32) (codes "f") nothing) (one_more (call (at 5) None (named (codes "f")) []) no_more)
    ∷ one_more (local_ (Int I32) (codes "L") nothing) (one_more (lock (at 5) (named (codes "L"))) no_more)
    ∷ one_more (local_ (Array I32 0) (codes "y") nothing) no_more ∷ [])
    ≡ refused_list T2 (at 9) (Some (codes "y"))
    ∷ Ok (t.one_more (t.skip (at 9))
    (t.one_more
    (t.block (at 5) (t.one_more (t.skip (at 9)) (t.one_more (t.assign (at 5) (t.to_local 10) t.null) t.no_more)))
    (t.one_more (t.assign (at 5) (t.to_local 9) (t.narrow I32 (t.literal 1))) t.no_more)))
    ∷ refused_list T1 (at 9) (Some (codes "y"))
    ∷ Ok (t.one_more (t.assign (at 9) (t.to_local 9) (t.narrow I8 (t.local 9))) t.no_more)
    ∷ refused_list T3 (at 5) None ∷ refused_list T3 (at 5) None ∷ refused_list T3 (at 9) None ∷ []
scopes = refl

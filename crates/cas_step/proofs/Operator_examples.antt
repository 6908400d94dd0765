-- Operators on words and pointers, computed, with the first reason why there is no result.
use Rattle.std.proofs.Common.{◌≡◌, ℕ, [], ◌∷◌, Some, refl}
use Rattle.std.specs.Prelude.{map}
use Rattle.cas_base.specs.declared.act.Why.{Why}
use Rattle.cas_base.specs.declared.act.Why.TheVariants.{DivZero, DivRange, Index, Null, Dead, Across}
use Rattle.cas_base.specs.declared.kind.Kind.TheVariants.{I8, I32}
use Rattle.cas_base.specs.declared.kind.Ty.TheVariants.{Int, Ptr, Array}
use Rattle.cas_syntax.specs.declared.tree.UnaryOperator.TheVariants as un
use Rattle.cas_syntax.specs.declared.tree.BinaryOperator.{BinaryOperator}
use Rattle.cas_syntax.specs.declared.tree.BinaryOperator.TheVariants as bin
use Rattle.cas_typed.specs.declared.tree.Signedness.TheVariants.{Signed, Unsigned}
use Rattle.cas_typed.specs.Resolved as t
use Rattle.cas_typed.specs.Resolved.{TypedExprTree}
use Rattle.cas_step.proofs.Running.{at, function_of, number, print, ended, bad, Outcome, outcome, thread}
use Rattle.cas_step.specs.Env.{function}

-- print(a); where local 1 is int a[3], 2 is int x, 3 is int y, 4 is a null pointer, and 5 a pointer to what is dead
abbrev printed : TypedExprTree → Outcome
printed a = thread (Array I32 3 ∷ Int I32 ∷ Int I32 ∷ Ptr I32 ∷ Ptr I32 ∷ [])
    (function_of (Ptr I32) (Int I32 ∷ []) (t.return_ (at 0) (Some (t.place_of 0)) ∷ []) ∷ [])
    (function (record { unit = 0; place = 1 }) ∷ []) (t.call (at 1) (Some (record { local = 5; ty = Ptr I32 })) 0
    (at 0) [] ∷ print 2 a ∷ [])

abbrev gives_word : ℕ → Outcome
gives_word n = outcome ended (n ∷ []) []

abbrev signed : BinaryOperator → ℕ → ℕ → TypedExprTree
signed op a b = t.binary op Signed (number a) (number b)

abbrev unsigned : BinaryOperator → ℕ → ℕ → TypedExprTree
unsigned op a b = t.binary op Unsigned (number a) (number b)

-- 2147483647 + 1, 3 - 5, -8 >> 1, 4294967295u >> 31, 1 << 33, -1 < 1, -1 < 1u, 2 >= 2, -7 / 2, -7 % 2, 4294967295u /
-- 2u, 7u % 0u, -2147483648 % -1, 12 & 10, 12 | 10, 12 ^ 10, ~5, -5, !0, (char)200
word_rows :
    map printed (signed bin.Add 2147483647 1 ∷ signed bin.Sub 3 5 ∷ signed bin.Shr 4294967288 1 ∷ unsigned bin.Shr
    4294967295 31 ∷ signed bin.Shl 1 33
    ∷ signed bin.Lt 4294967295 1 ∷ unsigned bin.Lt 4294967295 1 ∷ signed bin.Ge 2 2 ∷ signed bin.Div 4294967289 2 ∷
    signed bin.Mod 4294967289 2 ∷ unsigned bin.Div 4294967295 2 ∷ unsigned bin.Mod 7 0 ∷ signed bin.Mod 2147483648
    4294967295
    ∷ signed bin.BitAnd 12 10 ∷ signed bin.BitOr 12 10 ∷ signed bin.BitXor 12 10 ∷ t.unary un.BitNot
    (number 5) ∷ t.unary un.Neg (number 5) ∷ t.unary un.Not (number 0) ∷ t.narrow I8 (number 200) ∷ [])
    ≡ gives_word 2147483648 ∷ gives_word 4294967294 ∷ gives_word 4294967292 ∷ gives_word 1 ∷ gives_word 2
    ∷ gives_word 1 ∷ gives_word 0 ∷ gives_word 1 ∷ gives_word 4294967293 ∷ gives_word 4294967295 ∷ gives_word 2147483647
    ∷ outcome (bad DivZero 2) [] [] ∷ outcome (bad DivRange 2) [] []
    ∷ gives_word 8 ∷ gives_word 14 ∷ gives_word 6 ∷ gives_word 4294967290 ∷ gives_word 4294967291 ∷ gives_word 1 ∷
    gives_word 4294967240 ∷ []
word_rows = refl

abbrev by_zero : TypedExprTree
by_zero = signed bin.Div 1 0

-- *p of the null pointer
abbrev by_null : TypedExprTree
by_null = t.behind I32 (t.local 4)

-- 0 && 1 / 0, 2 && 3, 1 || 1 / 0, 0 || 0, 1 ? 2 : 1 / 0, 0 ? 1 / 0 : 3, 1 / 0 && 0, 1 / 0 + *p, *p + 1 / 0
order_rows :
    map printed (t.and_also (number 0) by_zero ∷ t.and_also (number 2) (number 3) ∷ t.or_else
    (number 1) by_zero ∷ t.or_else (number 0) (number 0) ∷ t.choose (number 1) (number 2) by_zero ∷ t.choose
    (number 0) by_zero (number 3)
    ∷ t.and_also by_zero (number 0) ∷ t.binary bin.Add Signed by_zero by_null ∷ t.binary bin.Add Signed by_null by_zero
    ∷ [])
    ≡ gives_word 0 ∷ gives_word 1 ∷ gives_word 1 ∷ gives_word 0 ∷ gives_word 2 ∷ gives_word 3
    ∷ outcome (bad DivZero 2) [] [] ∷ outcome (bad DivZero 2) [] [] ∷ outcome (bad Null 2) [] [] ∷ []
order_rows = refl

-- where a pointer stands in the array
abbrev place_in_array : TypedExprTree → TypedExprTree
place_in_array p = t.pointer_difference p (t.place_of 1)

abbrev reason : Why → Outcome
reason why = outcome (bad why 2) [] []

-- null and dead: dead - null, null < dead, dead < &x, dead != null, dead + 9; null + 0; null == null
-- two objects: &x - &y, &x >= &y, &x == &y, &x + 1 == &y, &x + 1 == &x + 1
-- in one: 2 + a, a + 3 - 1, a - 1, a + 4294967295u, a + 2 + -1, a < a + 1, a[3]
pointer_rows :
    map printed (t.pointer_difference (t.local 5) (t.local 4) ∷ t.compare bin.Lt (t.local 4)
    (t.local 5) ∷ t.compare bin.Lt (t.local 5) (t.place_of 2) ∷ t.compare bin.Ne (t.local 5) t.null
    ∷ place_in_array (t.pointer_plus Signed (t.local 5) (number 9)) ∷ place_in_array
    (t.pointer_plus Signed (t.local 4) (number 0)) ∷ t.compare bin.Eq (t.local 4) t.null
    ∷ t.pointer_difference (t.place_of 2) (t.place_of 3) ∷ t.compare bin.Ge (t.place_of 2)
    (t.place_of 3) ∷ t.compare bin.Eq (t.place_of 2) (t.place_of 3)
    ∷ t.compare bin.Eq (t.pointer_plus Signed (t.place_of 2) (number 1)) (t.place_of 3) ∷ t.compare bin.Eq
    (t.pointer_plus Signed (t.place_of 2) (number 1)) (t.pointer_plus Signed (t.place_of 2) (number 1))
    ∷ place_in_array (t.plus_pointer Signed (number 2) (t.place_of 1)) ∷ place_in_array
    (t.pointer_minus Signed (t.pointer_plus Signed (t.place_of 1) (number 3)) (number 1)) ∷ place_in_array
    (t.pointer_minus Signed (t.place_of 1) (number 1))
    ∷ place_in_array (t.pointer_plus Unsigned (t.place_of 1) (number 4294967295)) ∷ place_in_array
    (t.pointer_plus Signed (t.pointer_plus Signed (t.place_of 1) (number 2)) (number 4294967295))
    ∷ t.compare bin.Lt (t.place_of 1) (t.pointer_plus Signed (t.place_of 1) (number 1)) ∷ t.behind I32
    (t.pointer_plus Signed (t.place_of 1) (number 3)) ∷ [])
    ≡ reason Null ∷ reason Null ∷ reason Dead ∷ reason Dead ∷ reason Dead ∷ reason Null ∷ gives_word 1
    ∷ reason Across ∷ reason Across ∷ gives_word 0 ∷ reason Across ∷ gives_word 1
    ∷ gives_word 2 ∷ gives_word 2 ∷ reason Index ∷ reason Index ∷ gives_word 1 ∷ gives_word 1 ∷ reason Index ∷ []
pointer_rows = refl

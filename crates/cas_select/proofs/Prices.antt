-- What Selection makes costs no more than what it is made of.
use Rattle.std.proofs.Common.{◌≡◌, ℕ, zero, suc, ◌+◌, ◌≤◌, List, [], ◌∷◌, ◌++◌, Option, Some, None, Bool, true, false, if◌then◌else◌, refl, sym, ap, ◌∙◌, subst, arith}
use Rattle.std.specs.Prelude.{◌||◌, not, ℤ, pos, ◌+ℤ◌, ◌^◌}
use Rattle.cas_runs.specs.Bounds.{total}
use Rattle.cas_syntax.specs.declared.tree.BinaryOperator.{BinaryOperator}
use Rattle.cas_syntax.specs.declared.tree.BinaryOperator.TheVariants as bin
use Rattle.cas_syntax.specs.declared.tree.UnaryOperator.TheVariants as un
use Rattle.cas_typed.specs.declared.tree.Signedness.{Signedness}
use Rattle.cas_typed.specs.declared.tree.Signedness.TheVariants.{Signed, Unsigned}
use Rattle.cas_runs.specs.Label.{NameBytes}
use Rattle.cas_step.specs.Operators.{number_of, place_below, is_true}
use Rattle.cas_mid.specs.declared.tree.CminorFun.{CminorFun}
use Rattle.cas_mid.specs.declared.tree.Unop.{Unop}
use Rattle.cas_mid.specs.declared.tree.Unop.TheVariants.{OnWord, Narrow}
use Rattle.cas_mid.specs.declared.tree.Binop.{Binop}
use Rattle.cas_mid.specs.declared.tree.Binop.TheVariants.{OnWords, PointerPlus, PlusPointer, PointerMinus, PointerDifference, Compare}
use Rattle.cas_mid.specs.Operators.{binary_word}
use Rattle.cas_mid.specs.Trees as tree
use Rattle.cas_mid.specs.Trees.{Expression, Target}
use Rattle.cas_mid.specs.Expressions as cminor
use Rattle.cas_mid.specs.Expressions.{word_operator_price, operator_price, target_prices}
use Rattle.cas_mid.specs.Cminor.{cminor_parts}
use Rattle.cas_mid.specs.Translating.{PricesAlike}
use Rattle.cas_mid.proofs.Translating.{total_append, append_least}
use Rattle.cas_sel.specs.declared.tree.Op.TheVariants as op
use Rattle.cas_sel.specs.declared.tree.Cond.{Cond}
use Rattle.cas_sel.specs.declared.tree.Cond.TheVariants as cond
use Rattle.cas_sel.specs.Trees as sel
use Rattle.cas_sel.specs.Trees.{Expr, operation, load, if_, Exprs, no_more, one_more, Test, holds, always, if_test, Address}
use Rattle.cas_sel.specs.CminorSel.{op_price, value_prices, all_prices, test_prices, location_prices, sel_parts}
use Rattle.cas_select.specs.Operators.{one, two, constant, stack_address, known, known_offset, exchanged, exponent, numbered, with_number, folded, number_first, made_on_words, made_with, at_offset, moved_from, moved, made_plus, made_plus_pointer, made_binop, made_unop_by, made_unop}
use Rattle.cas_select.specs.Addresses.{offset_of, beyond, address, first_word, element_at, known_place, element, load_at}
use Rattle.cas_select.specs.Conditions.{agreeing, is_comparison, turned, truth_cond, value_test_by, value_test, folded_test, number_first_test, words_test, null_cond, pointers_test_by, pointers_test, on_words_test, binop_test, made_if, made_if_test, is_condition, agrees}
use Rattle.cas_select.specs.Makes.{made, made_test, made_condition, made_address}
use Rattle.cas_select.specs.Match.{selection}
use Rattle.cas_select.proofs.Choosing.{IsKnown, known_is, IsKnownOffset, known_offset_is}

-- what an expression, operands and a condition cost, and an expression of Cminor
abbrev price : Expr → ℕ
price a = total (value_prices a)

abbrev prices : Exprs → ℕ
prices es = total (all_prices es)

abbrev test_price : Test → ℕ
test_price c = total (test_prices c)

abbrev cost : Expression → ℕ
cost e = total (cminor.value_prices e)

one_price : (a : Expr) → prices (one a) ≡ price a
one_price a = let e = total_append (value_prices a) [] in omega (arith, e)

two_price : (a b : Expr) → prices (two a b) ≡ price a + price b
two_price a b =
    let e = total_append (value_prices a) (value_prices b ++ []) in let k = one_price b in omega (arith, e, k)

known_price : (a : Expr) (n : ℕ) → IsKnown a (Some n) → price a ≡ 13
known_price a n e = ap price e

least_price : (o : BinaryOperator) → 13 ≤ word_operator_price o
least_price bin.Div = omega arith
least_price bin.Mod = omega arith
least_price bin.Shl = omega arith
least_price bin.Shr = omega arith
least_price bin.Add = omega arith
least_price bin.Sub = omega arith
least_price bin.Mul = omega arith
least_price bin.BitAnd = omega arith
least_price bin.BitOr = omega arith
least_price bin.BitXor = omega arith
least_price bin.Eq = omega arith
least_price bin.Ne = omega arith
least_price bin.Lt = omega arith
least_price bin.Le = omega arith
least_price bin.Gt = omega arith
least_price bin.Ge = omega arith

numbered_price : (o : BinaryOperator) (s : Signedness) (n : ℕ) (k : Option ℕ) →
    op_price (numbered o s n k) ≤ word_operator_price o + 13
numbered_price bin.Mul s n (Some k) = omega arith
numbered_price bin.Div Unsigned n (Some k) = omega arith
numbered_price bin.Mod Unsigned n (Some k) = omega arith
numbered_price _ s n k = omega arith

with_number_price : (o : BinaryOperator) (s : Signedness) (a : Expr) (n : ℕ) →
    price (with_number o s a n) ≤ word_operator_price o + 13 + price a
with_number_price o s a n =
    let e = one_price a in let k = numbered_price o s n (exponent n) in omega (arith, e, k)

abbrev IsNoDearer : BinaryOperator → Option BinaryOperator → Type 0
IsNoDearer o None = Unit {0}
IsNoDearer o (Some other) = word_operator_price other ≤ word_operator_price o

exchanged_price : (o : BinaryOperator) → IsNoDearer o (exchanged o)
exchanged_price bin.Add = omega arith
exchanged_price bin.Mul = omega arith
exchanged_price bin.BitAnd = omega arith
exchanged_price bin.BitOr = omega arith
exchanged_price bin.BitXor = omega arith
exchanged_price bin.Eq = omega arith
exchanged_price bin.Ne = omega arith
exchanged_price bin.Lt = omega arith
exchanged_price bin.Le = omega arith
exchanged_price bin.Gt = omega arith
exchanged_price bin.Ge = omega arith
exchanged_price bin.Sub = tt
exchanged_price bin.Div = tt
exchanged_price bin.Mod = tt
exchanged_price bin.Shl = tt
exchanged_price bin.Shr = tt

binary_price : (o : Binop) (a b : Expr) →
    price (operation (op.Binary o) (two a b)) ≤ operator_price o + price a + price b
binary_price o a b = let e = two_price a b in omega (arith, e)

number_price : (o : Binop) (a : Expr) (n : ℕ) →
    price (operation (op.WithNumber o n) (one a)) ≤ operator_price o + price a
number_price o a n = let e = one_price a in omega (arith, e)

number_first_price : (o : BinaryOperator) (s : Signedness) (a b : Expr) (n : ℕ) → IsKnown a (Some n) →
    (other : Option BinaryOperator) → IsNoDearer o other →
    price (number_first o s a b n other) ≤ word_operator_price o + price a + price b
number_first_price o s a b n e None h = binary_price (OnWords o s) a b
number_first_price o s a b n e (Some other) h =
    let w = with_number_price other s b n in let k = known_price a n e in omega (arith, w, k, h)

folded_price : (a : Expr) (w : Option ℕ) (n : ℕ) → price a ≤ n → 13 ≤ n → price (folded a w) ≤ n
folded_price a None n h le = h
folded_price a (Some i) n h le = omega (arith, le)

on_words_price : (o : BinaryOperator) (s : Signedness) (a b : Expr) (ka kb : Option ℕ) → IsKnown a ka → IsKnown b kb →
    price (made_on_words o s a b ka kb) ≤ word_operator_price o + price a + price b
on_words_price o s a b (Some m) (Some n) e e' =
    let w = with_number_price o s a n in let k = known_price b n e' in
    folded_price (with_number o s a n) (binary_word o s m n) _ (omega (arith, w, k)) (omega (arith, k))
on_words_price o s a b None (Some n) e e' =
    let w = with_number_price o s a n in let k = known_price b n e' in omega (arith, w, k)
on_words_price o s a b (Some m) None e e' = number_first_price o s a b m e (exchanged o) (exchanged_price o)
on_words_price o s a b None None e e' = binary_price (OnWords o s) a b

with_price : (o : Binop) (a b : Expr) (kb : Option ℕ) →
    price (made_with o a b kb) ≤ operator_price o + price a + price b
with_price o a b None = binary_price o a b
with_price o a b (Some n) = let w = number_price o a n in omega (arith, w)

moved_price : (s : Signedness) (a : Expr) (n : ℕ) → price (moved s a n) ≤ 13 + price a
moved_price s a n = by (known_offset a)
  where
    at : (w : Option ℕ) → price (at_offset (operation (op.WithNumber (PointerPlus s) n) (one a)) w) ≤ 13 + price a
    at None = number_price (PointerPlus s) a n
    at (Some q) = omega arith

    by : (k : Option ℕ) → price (moved_from s a n k) ≤ 13 + price a
    by None = number_price (PointerPlus s) a n
    by (Some k) = at (place_below (2 ^ 32) (pos k +ℤ number_of s n))

plus_price : (s : Signedness) (a b : Expr) (kb : Option ℕ) → price (made_plus s a b kb) ≤ 13 + price a + price b
plus_price s a b None = binary_price (PointerPlus s) a b
plus_price s a b (Some n) = let w = moved_price s a n in omega (arith, w)

plus_pointer_price : (s : Signedness) (a b : Expr) (ka : Option ℕ) →
    price (made_plus_pointer s a b ka) ≤ 13 + price a + price b
plus_pointer_price s a b None = binary_price (PlusPointer s) a b
plus_pointer_price s a b (Some n) = let w = moved_price s b n in omega (arith, w)

binop_price : (o : Binop) (a b : Expr) → price (made_binop o a b) ≤ operator_price o + price a + price b
binop_price (OnWords o s) a b = on_words_price o s a b (known a) (known b) (known_is a) (known_is b)
binop_price (PointerPlus s) a b = plus_price s a b (known b)
binop_price (PlusPointer s) a b = plus_pointer_price s a b (known a)
binop_price (PointerMinus s) a b = with_price (PointerMinus s) a b (known b)
binop_price PointerDifference a b = binary_price PointerDifference a b
binop_price (Compare o) a b = with_price (Compare o) a b (known b)

unop_price : (o : Unop) (a : Expr) → price (made_unop o a) ≤ 13 + price a
unop_price o a = by (known a)
  where
    by : (k : Option ℕ) → price (made_unop_by o a k) ≤ 13 + price a
    by None = let e = one_price a in omega (arith, e)
    by (Some n) = omega arith

-- addresses cost what their pointers and indices do
beyond_price : (es : Exprs) (whole : Expr) (o : Option ℤ) → prices es ≤ price whole →
    prices (beyond es whole o).operands ≤ price whole
beyond_price es whole None h = let e = one_price whole in omega (arith, e)
beyond_price (one_more (operation (op.Binary (PointerPlus s)) es) no_more) whole (Some offset) h =
    let e = one_price (operation (op.Binary (PointerPlus s)) es) in omega (arith, e, h)
beyond_price es whole (Some offset) h = h

address_price : (a : Expr) → prices (address a).operands ≤ price a
address_price (operation (op.StackAddress offset) es) = omega arith
address_price (operation (op.Binary (PointerPlus s)) es) = omega arith
address_price (operation (op.WithNumber (PointerPlus s) n) es) =
    beyond_price es (operation (op.WithNumber (PointerPlus s) n) es) (offset_of s n) (omega arith)
address_price a = let e = one_price a in omega (arith, e)

element_price : (g : NameBytes) (s : Signedness) (a : Expr) → prices (element g s a).operands ≤ price a
element_price g s a = by (known_place s (known a))
  where
    by : (k : Option ℕ) → prices (element_at g s a k).operands ≤ price a
    by None = let e = one_price a in omega (arith, e)
    by (Some n) = omega arith

-- conditions cost what their values do, and comparisons less
value_test_price : (meant : Bool) (a : Expr) → test_price (value_test meant a) ≤ price a
value_test_price meant a = by (known a) (known_is a)
  where
    by : (k : Option ℕ) → IsKnown a k → test_price (value_test_by meant a k) ≤ price a
    by None e = let h = one_price a in omega (arith, h)
    by (Some n) e = let h = known_price a n e in omega (arith, h)

words_test_price : (o : BinaryOperator) (s : Signedness) (a b : Expr) (ka kb : Option ℕ) → IsKnown a ka →
    IsKnown b kb → test_price (words_test o s a b ka kb) ≤ price a + price b
words_test_price o s a b (Some m) (Some n) e e' = by (binary_word o s m n)
  where
    by : (w : Option ℕ) → test_price (folded_test (holds (cond.WithNumber o s n) (one a)) w)
        ≤ price a + price b
    by None = let h = one_price a in omega (arith, h)
    by (Some i) = let h = known_price a m e in omega (arith, h)
words_test_price o s a b None (Some n) e e' = let h = one_price a in omega (arith, h)
words_test_price o s a b (Some m) None e e' = by (exchanged o)
  where
    by : (other : Option BinaryOperator) → test_price (number_first_test o s a b m other) ≤ price a + price b
    by None = let h = two_price a b in omega (arith, h)
    by (Some other) = let h = one_price b in omega (arith, h)
words_test_price o s a b None None e e' = let h = two_price a b in omega (arith, h)

pointers_test_price : (o : BinaryOperator) (a b : Expr) → test_price (pointers_test o a b) ≤ price a + price b
pointers_test_price o a b = by (null_cond o (known b))
  where
    by : (c : Option Cond) → test_price (pointers_test_by o a b c) ≤ price a + price b
    by None = let h = two_price a b in omega (arith, h)
    by (Some c) = let h = one_price a in omega (arith, h)

if_price : (c : Test) (a b : Expr) → price (made_if c a b) ≤ 11 + test_price c + price a + price b
if_price (always true) a b = omega arith
if_price (always false) a b = omega arith
if_price (holds o es) a b =
    let e = total_append (all_prices es ++ value_prices a) (value_prices b) in
    let k = total_append (all_prices es) (value_prices a) in omega (arith, e, k)
if_price (if_test c d h) a b =
    let e = total_append (test_prices (if_test c d h) ++ value_prices a) (value_prices b) in
    let k = total_append (test_prices (if_test c d h)) (value_prices a) in omega (arith, e, k)

if_test_price : (c a b : Test) → test_price (made_if_test c a b) ≤ 19 + test_price c + test_price a + test_price b
if_test_price (always true) a b = omega arith
if_test_price (always false) a b = omega arith
if_test_price (holds o es) a b =
    let e = total_append (all_prices es ++ test_prices a) (test_prices b) in
    let k = total_append (all_prices es) (test_prices a) in omega (arith, e, k)
if_test_price (if_test c d h) a b =
    let e = total_append (test_prices (if_test c d h) ++ test_prices a) (test_prices b) in
    let k = total_append (test_prices (if_test c d h)) (test_prices a) in omega (arith, e, k)

-- what a condition costs
pub record IsCheap (c : Test) (e : Expression) : Type 0 where
  pub most : test_price c ≤ cost e
  pub less : is_condition e ≡ true → test_price c + 8 ≤ cost e

one_of_both : (a b : Bool) → (a || b) ≡ true → (P : Type 0) → (a ≡ true → P) → (b ≡ true → P) → P
one_of_both true b e P h k = h refl
one_of_both false true e P h k = k refl
one_of_both false false e P h k = absurd (cc e)

binop_test_cheap : (meant : Bool) (o : Binop) (a b : Expr) (x y : Expression) → price a ≤ cost x → price b ≤ cost y →
    IsCheap (binop_test meant o a b) (tree.binop o x y)
binop_test_cheap meant o a b x y h k = by o
  where
    both : (o : Binop) → cost (tree.binop o x y) ≡ operator_price o + (cost x + cost y)
    both o = let e = total_append (cminor.value_prices x) (cminor.value_prices y) in omega (arith, e)

    value : (o : Binop) → test_price (value_test meant (made_binop o a b)) ≤ cost (tree.binop o x y)
    value o =
        let v = value_test_price meant (made_binop o a b) in let p = binop_price o a b in let e = both o in
        omega (arith, v, p, e, h, k)

    on_words : (o : BinaryOperator) (s : Signedness) (is : Bool) → is_comparison o ≡ is →
        IsCheap (on_words_test meant o s a b is) (tree.binop (OnWords o s) x y)
    on_words o s false e = record { most = value (OnWords o s); less = λ i. absurd (cc (e, i)) }
    on_words o s true e =
        let w = words_test_price (turned o meant) s a b (known a) (known b) (known_is a) (known_is b) in
        let c = both (OnWords o s) in let l = least_price o in
        record { most = omega (arith, w, c, l, h, k); less = λ i. omega (arith, w, c, l, h, k) }

    by : (o : Binop) → IsCheap (binop_test meant o a b) (tree.binop o x y)
    by (OnWords o s) = on_words o s (is_comparison o) refl
    by (Compare o) =
        let w = pointers_test_price (turned o meant) a b in let c = both (Compare o) in
        record { most = omega (arith, w, c, h, k); less = λ i. omega (arith, w, c, h, k) }
    by (PointerPlus s) = record { most = value (PointerPlus s); less = λ i. absurd (cc i) }
    by (PlusPointer s) = record { most = value (PlusPointer s); less = λ i. absurd (cc i) }
    by (PointerMinus s) = record { most = value (PointerMinus s); less = λ i. absurd (cc i) }
    by PointerDifference = record { most = value PointerDifference; less = λ i. absurd (cc i) }

-- a value that is tested
tested : (meant : Bool) (a : Expr) (e : Expression) → price a ≤ cost e → is_condition e ≡ false →
    IsCheap (value_test meant a) e
tested meant a e h is =
    let v = value_test_price meant a in record { most = omega (arith, v, h); less = λ i. absurd (cc (is, i)) }

if_cost : (c a b : Expression) → cost (tree.if_ c a b) ≡ 11 + (cost c + cost a + cost b)
if_cost c a b =
    let e = total_append (cminor.value_prices c ++ cminor.value_prices a) (cminor.value_prices b) in
    let k = total_append (cminor.value_prices c) (cminor.value_prices a) in omega (arith, e, k)

module _ (meant : Bool) (c a b : Expression) (tests : (m : Bool) → IsCheap (made_test m c) c)
    (left : IsCheap (made_test meant a) a) (right : IsCheap (made_test meant b) b)
    (value_a : price (made a) ≤ cost a) (value_b : price (made b) ≤ cost b) where
  if_value_price : price (made_if (made_test true c) (made a) (made b)) ≤ cost (tree.if_ c a b)
  if_value_price =
      let t = tests true in let p = t.most in let i = if_price (made_test true c) (made a) (made b) in
      let e = if_cost c a b in omega (arith, p, i, e, value_a, value_b)

  if_among : (is : Bool) → (is_condition a || is_condition b) ≡ is → test_price (if is
      then made_if_test (made_test true c) (made_test meant a) (made_test meant b)
      else value_test meant (made_if (made_test true c) (made a) (made b))) ≤ cost (tree.if_ c a b)
  if_among true e =
      let t = tests true in let p = t.most in
      let i = if_test_price (made_test true c) (made_test meant a) (made_test meant b) in
      let k = if_cost c a b in let l = left.most in let r = right.most in
      one_of_both (is_condition a) (is_condition b) e _
      (λ x. let s = left.less x in omega (arith, p, i, k, l, r, s))
      (λ x. let s = right.less x in omega (arith, p, i, k, l, r, s))
  if_among false e =
      let v = value_test_price meant (made_if (made_test true c) (made a) (made b)) in
      let w = if_value_price in omega (arith, v, w)

  if_so : (is : Option Bool) → test_price (elim is [
    | Some is ↦ made_test (agreeing is meant) c
    | None ↦ if is_condition a || is_condition b
        then made_if_test (made_test true c) (made_test meant a) (made_test meant b)
        else value_test meant (made_if (made_test true c) (made a) (made b))
  ]) ≤ cost (tree.if_ c a b)
  if_so None = if_among (is_condition a || is_condition b) refl
  if_so (Some is) = let t = tests (agreeing is meant) in let p = t.most in let e = if_cost c a b in omega (arith, p, e)

mutual
  pub made_price : (e : Expression) → price (made e) ≤ cost e
  made_price (tree.word n) = omega arith
  made_price (tree.temporary t) = omega arith
  made_price (tree.own n) = omega arith
  made_price (tree.global g) = omega arith
  made_price (tree.element g s a) =
      let h = made_price a in let e = element_price g s (made a) in omega (arith, h, e)
  made_price (tree.load a) = let h = made_price a in let e = address_price (made a) in omega (arith, h, e)
  made_price (tree.unop o a) = let h = made_price a in let e = unop_price o (made a) in omega (arith, h, e)
  made_price (tree.binop o a b) =
      let h = made_price a in let k = made_price b in let e = binop_price o (made a) (made b) in
      let t = total_append (cminor.value_prices a) (cminor.value_prices b) in omega (arith, h, k, e, t)
  made_price (tree.if_ c a b) =
      if_value_price true c a b (λ m. test_cheap m c) (test_cheap true a) (test_cheap true b) (made_price a)
      (made_price b)

  test_cheap : (meant : Bool) (e : Expression) → IsCheap (made_test meant e) e
  test_cheap meant (tree.word n) = record { most = omega arith; less = λ i. omega arith }
  test_cheap meant (tree.temporary t) = tested meant (sel.temporary t) (tree.temporary t) (omega arith) refl
  test_cheap meant (tree.own n) = tested meant (stack_address n) (tree.own n) (omega arith) refl
  test_cheap meant (tree.global g) = tested meant (load_at (first_word g)) (tree.global g) (omega arith) refl
  test_cheap meant (tree.element g s a) =
      let h = made_price a in let e = element_price g s (made a) in
      tested meant (load_at (element g s (made a))) (tree.element g s a) (omega (arith, h, e)) refl
  test_cheap meant (tree.load a) =
      let h = made_price a in let e = address_price (made a) in
      tested meant (load_at (address (made a))) (tree.load a) (omega (arith, h, e)) refl
  test_cheap meant (tree.unop (OnWord un.Not) a) =
      let t = test_cheap (not meant) a in let p = t.most in
      record { most = omega (arith, p); less = λ i. omega (arith, p) }
  test_cheap meant (tree.unop (OnWord un.Neg) a) =
      let h = made_price a in let e = unop_price (OnWord un.Neg) (made a) in
      tested meant (made_unop (OnWord un.Neg) (made a)) (tree.unop (OnWord un.Neg) a) (omega (arith, h, e)) refl
  test_cheap meant (tree.unop (OnWord un.Plus) a) =
      let h = made_price a in let e = unop_price (OnWord un.Plus) (made a) in
      tested meant (made_unop (OnWord un.Plus) (made a)) (tree.unop (OnWord un.Plus) a) (omega (arith, h, e)) refl
  test_cheap meant (tree.unop (OnWord un.BitNot) a) =
      let h = made_price a in let e = unop_price (OnWord un.BitNot) (made a) in
      tested meant (made_unop (OnWord un.BitNot) (made a)) (tree.unop (OnWord un.BitNot) a) (omega (arith, h, e)) refl
  test_cheap meant (tree.unop (Narrow k) a) =
      let h = made_price a in let e = unop_price (Narrow k) (made a) in
      tested meant (made_unop (Narrow k) (made a)) (tree.unop (Narrow k) a) (omega (arith, h, e)) refl
  test_cheap meant (tree.binop o a b) = binop_test_cheap meant o (made a) (made b) a b (made_price a) (made_price b)
  test_cheap meant (tree.if_ c a b) = record {
    most = if_so meant c a b (λ m. test_cheap m c) (test_cheap meant a) (test_cheap meant b) (made_price a)
        (made_price b) (agrees a b);
    less = λ i. absurd (cc i);
  }

location_price : (m : Target) → total (location_prices (made_address m)) ≤ total (target_prices m)
location_price (tree.to_global g) = omega arith
location_price (tree.to_element g s a) =
    let h = made_price a in let e = element_price g s (made a) in omega (arith, h, e)
location_price (tree.to_pointer a) = let h = made_price a in let e = address_price (made a) in omega (arith, h, e)

-- no part costs more
pub prices_alike : PricesAlike sel_parts cminor_parts selection
prices_alike = record {
  values = λ g e a same. subst (λ c. price c ≤ cost a) (sym same) (made_price a);
  locations = λ g m to same. subst (λ (c : Address). total (location_prices c) ≤ total (target_prices to)) (sym same)
      (location_price to);
  tests = λ g c a same. subst (λ d. test_price d ≤ cost a) (sym same)
      (let t = test_cheap true a in t.most);
}

-- How much of Csharpminor is made of a text's tree: what it costs, and how many values it has.
use Rattle.std.proofs.Common.{◌≡◌, ℕ, zero, ◌+◌, ◌*◌, ◌≤◌, List, [], ◌∷◌, ◌++◌, refl, arith, map}
use Rattle.std.proofs.lemmas.List.Sums.{sum_by-cons}
use Rattle.cas_base.specs.declared.decl.Decl.{Decl}
use Rattle.cas_base.specs.declared.kind.Ty.{Ty}
use Rattle.cas_syntax.specs.declared.tree.BinaryOperator.{BinaryOperator}
use Rattle.cas_syntax.specs.declared.tree.BinaryOperator.TheVariants as op
use Rattle.cas_syntax.specs.declared.tree.Ident.{Ident}
use Rattle.cas_mid.specs.declared.tree.Binop.{Binop}
use Rattle.cas_mid.specs.declared.tree.Binop.TheVariants.{OnWords, PointerPlus, PlusPointer, PointerMinus, PointerDifference, Compare}
use Rattle.cas_syntax.specs.Tree.{ExprTree, literal, name, index, deref, address, address_index, unary, cast, binary, and_also, or_else, conditional}
use Rattle.cas_typed.specs.Counts.{nodes_of_expr, nodes_of_exprs}
use Rattle.cas_typed.specs.Resolved as t
use Rattle.cas_typed.specs.Resolved.{TypedExprTree}
use Rattle.cas_typed.specs.Scopes.{Scope}
use Rattle.cas_typed.specs.Typing as ty
use Rattle.cas_typed.specs.Typing.{HasType, Tests, Gives, GivesEach}
use Rattle.cas_runs.specs.Bounds.{total}
use Rattle.cas_mid.specs.Trees.{Expression, word, temporary, own, global, element, load, unop, binop, if_}
use Rattle.cas_mid.specs.Expressions.{value_prices, word_operator_price, operator_price}
use Rattle.cas_mid.specs.Language.{argument_prices}
use Rattle.cas_mid.specs.Csharpminor.{csharp_parts}
use Rattle.cas_mid.specs.Rooms.{inner_values, unless_own, unless_temporary, values as values_of, argument_values}
use Rattle.cas_cshmgen.specs.Makes.{made_expr, made_exprs, condition_of}

pub total_append : (ms ns : List ℕ) → total (ms ++ ns) ≡ total ms + total ns
total_append [] ns = omega arith
total_append (m ∷ ms) ns = let rest = total_append ms ns in omega (arith, rest)

-- what an expression costs
abbrev pub price : Expression → ℕ
price (word n) = 13
price (temporary t) = 10
price (own n) = 13
price (global g) = 13
price (element g s a) = 13 + price a
price (load a) = 13 + price a
price (unop o a) = 13 + price a
price (binop o a b) = operator_price o + (price a + price b)
price (if_ c a b) = 11 + (price c + (price a + price b))

pub price_is : (a : Expression) → total (value_prices a) ≡ price a
price_is (word n) = refl
price_is (temporary t) = refl
price_is (own n) = refl
price_is (global g) = refl
price_is (element g s a) = let p = price_is a in omega (arith, p)
price_is (load a) = let p = price_is a in omega (arith, p)
price_is (unop o a) = let p = price_is a in omega (arith, p)
price_is (binop o a b) = let p = price_is a in let q = price_is b in let both =
    total_append (value_prices a) (value_prices b) in omega (arith, p, q, both)
price_is (if_ c a b) =
    let p = price_is c in let q = price_is a in let s = price_is b in
    let two = total_append (value_prices c) (value_prices a) in
    let both = total_append (value_prices c ++ value_prices a) (value_prices b) in omega (arith, p, q, s, two, both)

word_price : (o : BinaryOperator) → word_operator_price o ≤ 17
word_price op.Div = omega arith
word_price op.Mod = omega arith
word_price op.Shl = omega arith
word_price op.Shr = omega arith
word_price _ = omega arith

-- a temporary or an own address has no value of its own
pub less_temporary : (a : Expression) (n : ℕ) → unless_temporary a n ≤ n
less_temporary (temporary t) n = omega arith
less_temporary _ n = omega arith

pub less_own : (a : Expression) (n : ℕ) → unless_own a n ≤ n
less_own (own i) n = omega arith
less_own _ n = omega arith

-- a condition costs no more than its expression

condition_price : (a : Expression) → price (condition_of a) ≤ price a
condition_price (binop (Compare op.Ne) p (word zero)) = omega arith
condition_price _ = omega arith

inner_less : (a : Expression) → inner_values a ≤ unless_temporary a (inner_values a + 1)
inner_less (temporary t) = omega arith
inner_less _ = omega arith

condition_values : (a : Expression) → inner_values (condition_of a) ≤ inner_values a
condition_values (binop (Compare op.Ne) p (word zero)) = let less = inner_less p in omega (arith, less)
condition_values _ = omega arith

-- what is made of an expression with so many nodes
pub record IsSized (a : Expression) (n : ℕ) : Type 0 where
  pub prices : price a ≤ 61 * n
  pub values : inner_values a + 1 ≤ 3 * n

-- the same as a condition, and as a value
pub record IsTestSized (a : Expression) (n : ℕ) : Type 0 where
  pub condition_prices : price (condition_of a) ≤ 61 * n
  pub condition_counts : inner_values (condition_of a) + 1 ≤ 3 * n
  pub prices : price a ≤ 26 + 61 * n
  pub values : inner_values a + 1 ≤ 3 * n + 2

pub one_operand : (a : Expression) (n : ℕ) → IsSized a n → unless_temporary a (inner_values a + 1) ≤ 3 * n
one_operand a n h = let v = h.values in let less = less_temporary a (inner_values a + 1) in omega (arith, v, less)

module _ (ds : List Decl) (s : Scope) where
  abbrev M : TypedExprTree → Expression
  M a = made_expr ds a

  -- a name's value, or a pointer to it
  pub named : {x : Ident} {p : TypedExprTree} {ty : Ty} → HasType s (name x) p ty → (price (M p) ≤ 26)
      × (inner_values (M p) ≤ 0)
  named (ty.a_local x n k m) = (omega arith, omega arith)
  named (ty.a_local_pointer x n k m) = (omega arith, omega arith)
  named (ty.a_global x g form k m v) = (omega arith, omega arith)
  named (ty.first_element x n len k m) = (omega arith, omega arith)

  operands : (o : Binop) (p q : Expression) (m n : ℕ) → operator_price o ≤ 17 → IsSized p m → IsSized q n →
      IsSized (binop o p q) (1 + (m + n))
  operands o p q m n le h k =
      let a = h.prices in let b = k.prices in
      let v = one_operand p m h in let w = one_operand q n k in
      record { prices = omega (arith, le, a, b); values = omega (arith, v, w) }

  chosen : (d a b : TypedExprTree) (l m n : ℕ) → IsTestSized (M d) l → IsSized (M a) m → IsSized (M b) n →
      IsSized (M (t.choose d a b)) (1 + (l + (m + n)))
  chosen d a b l m n h i k =
      let a' = h.condition_prices in let v = h.condition_counts in
      let b' = i.prices in let w = i.values in let c' = k.prices in let x = k.values in
      let less = less_temporary (condition_of (M d)) (inner_values (condition_of (M d)) + 1) in
      record { prices = omega (arith, a', b', c'); values = omega (arith, v, w, x, less) }

  mutual
    pub sized : {e : ExprTree} {a : TypedExprTree} {ty : Ty} → HasType s e a ty → IsSized (M a) (nodes_of_expr e)
    sized (ty.a_literal n k) = record { prices = omega arith; values = omega arith }
    sized (ty.a_local x n k m) = record { prices = omega arith; values = omega arith }
    sized (ty.a_local_pointer x n k m) = record { prices = omega arith; values = omega arith }
    sized (ty.a_global x g form k m v) = record { prices = omega arith; values = omega arith }
    sized (ty.arithmetic o a b a' b' j k is h i) = operands (OnWords o _) (M a') (M b') (nodes_of_expr a)
        (nodes_of_expr b) (word_price o) (sized h) (sized i)
    sized (ty.pointer_plus a b p e j k h i) = operands (PointerPlus _) (M p) (M e) (nodes_of_expr a) (nodes_of_expr b)
        (omega arith) (sized h) (sized i)
    sized (ty.plus_pointer a b e p j k h i) = operands (PlusPointer _) (M e) (M p) (nodes_of_expr a) (nodes_of_expr b)
        (omega arith) (sized h) (sized i)
    sized (ty.pointer_minus a b p e j k h i) = operands (PointerMinus _) (M p) (M e) (nodes_of_expr a) (nodes_of_expr b)
        (omega arith) (sized h) (sized i)
    sized (ty.pointer_difference a b p q k h i) = operands PointerDifference (M p) (M q) (nodes_of_expr a)
        (nodes_of_expr b) (omega arith) (sized h) (sized i)
    sized (ty.shift o a b a' b' j k is h i) = operands (OnWords o _) (M a') (M b') (nodes_of_expr a) (nodes_of_expr b)
        (word_price o) (sized h) (sized i)
    sized (ty.equal_integers o a b a' b' j k is h i) =
        operands (OnWords o _) (M a') (M b') (nodes_of_expr a) (nodes_of_expr b) (word_price o) (sized h) (sized i)
    sized (ty.equal_pointers o a b p q k is h i) = operands (Compare o) (M p) (M q) (nodes_of_expr a) (nodes_of_expr b)
        (omega arith) (sized h) (sized i)
    sized (ty.pointer_and_null o a b p k is h null) = let i = sized h in let v = i.prices in let w =
        one_operand (M p) (nodes_of_expr a) i in record { prices = omega (arith, v); values = omega (arith, w) }
    sized (ty.null_and_pointer o a b q k is null h) = let i = sized h in let v = i.prices in let w =
        one_operand (M q) (nodes_of_expr b) i in record { prices = omega (arith, v); values = omega (arith, w) }
    sized (ty.ordered_integers o a b a' b' j k is h i) =
        operands (OnWords o _) (M a') (M b') (nodes_of_expr a) (nodes_of_expr b) (word_price o) (sized h) (sized i)
    sized (ty.ordered_pointers o a b p q k is h i) = operands (Compare o) (M p) (M q) (nodes_of_expr a)
        (nodes_of_expr b) (omega arith) (sized h) (sized i)
    sized (ty.both a b c d h i) =
        let p = tests_sized h in let q = tests_sized i in
        let a' = p.condition_prices in let b' = q.condition_prices in
        let v = p.condition_counts in let w = q.condition_counts in
        let l = less_temporary (condition_of (M c)) (inner_values (condition_of (M c)) + 1) in
        let m = less_temporary (condition_of (M d)) (inner_values (condition_of (M d)) + 1) in
        record { prices = omega (arith, a', b'); values = omega (arith, v, w, l, m) }
    sized (ty.either a b c d h i) =
        let p = tests_sized h in let q = tests_sized i in
        let a' = p.condition_prices in let b' = q.condition_prices in
        let v = p.condition_counts in let w = q.condition_counts in
        let l = less_temporary (condition_of (M c)) (inner_values (condition_of (M c)) + 1) in
        let m = less_temporary (condition_of (M d)) (inner_values (condition_of (M d)) + 1) in
        record { prices = omega (arith, a', b'); values = omega (arith, v, w, l, m) }
    sized (ty.not_so a c h) =
        let p = tests_sized h in let v = p.prices in let w = p.values in
        let l = less_temporary (M c) (inner_values (M c) + 1) in
        record { prices = omega (arith, v); values = omega (arith, w, l) }
    sized (ty.choice c a b d a' b' j k h i l) = chosen d a' b' (nodes_of_expr c) (nodes_of_expr a) (nodes_of_expr b)
        (tests_sized h) (sized i) (sized l)
    sized (ty.choice_of_pointers c a b d p q k h i l) =
        chosen d p q (nodes_of_expr c) (nodes_of_expr a) (nodes_of_expr b) (tests_sized h) (sized i) (sized l)
    sized (ty.choice_or_null c a b d p k h i null) =
        let t' = tests_sized h in let x = sized i in
        let a' = t'.condition_prices in let v = t'.condition_counts in let b' = x.prices in let w = x.values in
        let l = less_temporary (condition_of (M d)) (inner_values (condition_of (M d)) + 1) in
        record { prices = omega (arith, a', b'); values = omega (arith, v, w, l) }
    sized (ty.null_or_choice c a b d q k h null i) =
        let t' = tests_sized h in let x = sized i in
        let a' = t'.condition_prices in let v = t'.condition_counts in let b' = x.prices in let w = x.values in
        let l = less_temporary (condition_of (M d)) (inner_values (condition_of (M d)) + 1) in
        record { prices = omega (arith, a', b'); values = omega (arith, v, w, l) }
    sized (ty.signed o a a' k is h) = let i = sized h in let v = i.prices in let w =
        one_operand (M a') (nodes_of_expr a) i in record { prices = omega (arith, v); values = omega (arith, w) }
    sized (ty.converted k a a' j h) = let i = sized h in let v = i.prices in let w =
        one_operand (M a') (nodes_of_expr a) i in record { prices = omega (arith, v); values = omega (arith, w) }
    sized (ty.cell_behind a p k h) = let i = sized h in let v = i.prices in let w =
        one_operand (M p) (nodes_of_expr a) i in let l =
        less_own (M p) (unless_temporary (M p) (inner_values (M p) + 1)) in
        record { prices = omega (arith, v); values = omega (arith, w, l) }
    sized (ty.element_behind x a p e j k h i) =
        let n = named h in let n0 = n.0 in let n1 = n.1 in let y = sized i in let v = y.prices in let w =
        one_operand (M e) (nodes_of_expr a) y in
        let l = less_temporary (M p) (inner_values (M p) + 1) in
        record { prices = omega (arith, n0, v); values = omega (arith, n1, w, l) }
    sized (ty.element_of_global x a e g n form j k m v h) = let i = sized h in let v' = i.prices in let w =
        one_operand (M e) (nodes_of_expr a) i in record { prices = omega (arith, v'); values = omega (arith, w) }
    sized (ty.pointer_to_local x n k m) = record { prices = omega arith; values = omega arith }
    sized (ty.pointer_to_element x a p e j k h i) =
        let n = named h in let n0 = n.0 in let n1 = n.1 in let y = sized i in let v = y.prices in let w =
        one_operand (M e) (nodes_of_expr a) y in
        let l = less_temporary (M p) (inner_values (M p) + 1) in
        record { prices = omega (arith, n0, v); values = omega (arith, n1, w, l) }
    sized (ty.first_element x n len k m) = record { prices = omega arith; values = omega arith }

    pub tests_sized : {e : ExprTree} {c : TypedExprTree} → Tests s e c → IsTestSized (M c) (nodes_of_expr e)
    tests_sized (ty.an_integer_test a e k h) =
        let i = sized h in let v = i.prices in let w = i.values in let p = condition_price (M e) in let q =
        condition_values (M e) in
        record {
          condition_prices = omega (arith, v, p);
          condition_counts = omega (arith, w, q);
          prices = omega
              (arith, v);
          values = omega (arith, w);
        }
    tests_sized (ty.a_pointer_test a p k h) =
        let i = sized h in let v = i.prices in let w = i.values in let l =
        less_temporary (M p) (inner_values (M p) + 1) in
        record {
          condition_prices = omega (arith, v);
          condition_counts = omega (arith, w);
          prices = omega
              (arith, v);
          values = omega (arith, w, l);
        }

-- Statements: what they cost with their locals, how many values they have, and that their expressions are paid for.

pub nodes_positive : (e : ExprTree) → 1 ≤ nodes_of_expr e
nodes_positive (literal n k) = omega arith
nodes_positive (name x) = omega arith
nodes_positive (index x a) = omega arith
nodes_positive (deref a) = omega arith
nodes_positive (address x) = omega arith
nodes_positive (address_index x a) = omega arith
nodes_positive (unary o a) = omega arith
nodes_positive (cast k a) = omega arith
nodes_positive (binary o a b) = omega arith
nodes_positive (and_also a b) = omega arith
nodes_positive (or_else a b) = omega arith
nodes_positive (conditional c a b) = omega arith

-- a value that is converted
pub record IsGiven (a : Expression) (n : ℕ) : Type 0 where
  pub prices : total (value_prices a) ≤ 13 + 61 * n
  pub values : values_of a ≤ 3 * n + 1

module _ (ds : List Decl) (s : Scope) where
  pub given : {e : ExprTree} {a : TypedExprTree} {ty : Ty} → Gives s e ty a → IsGiven (made_expr ds a) (nodes_of_expr e)
  given (ty.an_integer e a j k h) =
      let i = sized ds s h in let p = i.prices in let v = one_operand (made_expr ds a) (nodes_of_expr e) i in let q =
      price_is (made_expr ds a) in
      record { prices = omega (arith, p, q); values = omega (arith, v) }
  given (ty.a_pointer e a k h) =
      let i = sized ds s h in let p = i.prices in let v = one_operand (made_expr ds a) (nodes_of_expr e) i in let q =
      price_is (made_expr ds a) in
      record { prices = omega (arith, p, q); values = omega (arith, v) }
  given (ty.a_null e k null) = record { prices = omega arith; values = omega arith }

  pub arguments_sized : {args : List ExprTree} {tys : List Ty} {es : List TypedExprTree} → GivesEach s args tys es →
      (total (argument_prices csharp_parts (made_exprs ds es)) ≤ 82 * nodes_of_exprs args)
      × (argument_values (made_exprs ds es) ≤ 8 * nodes_of_exprs args)
  arguments_sized ty.no_argument = (omega arith, omega arith)
  arguments_sized (ty.an_argument a args ty tys e es h rest) =
      let i = given h in let p = i.prices in let v = i.values in let n = nodes_positive a in
      let more = arguments_sized rest in let more0 = more.0 in let more1 = more.1 in
      let both = total_append (value_prices (made_expr ds e)) (argument_prices csharp_parts (made_exprs ds es)) in
      let count : nodes_of_exprs (a ∷ args) ≡ nodes_of_expr a + nodes_of_exprs args =
      sum_by-cons (λ (i : ℕ). i) (nodes_of_expr a) (map nodes_of_expr args) in
      (omega (arith, p, n, more0, both, count), omega (arith, v, n, more1, count))

-- The constants of the languages with statements are prices.
use Rattle.std.proofs.Common.{ℕ, ◌≤◌, List, [], ◌∷◌, ◌++◌, Option, Some, None, arith}
use Rattle.cas_syntax.specs.declared.tree.BinaryOperator.{BinaryOperator}
use Rattle.cas_syntax.specs.declared.tree.BinaryOperator.TheVariants as op
use Rattle.cas_runs.specs.Bounds.{IsPrice, ArePrices, IsTariff}
use Rattle.cas_mid.specs.declared.tree.Binop.{Binop}
use Rattle.cas_mid.specs.declared.tree.Binop.TheVariants.{OnWords, PointerPlus, PlusPointer, PointerMinus, PointerDifference, Compare}
use Rattle.cas_mid.specs.Trees.{Expression, word, temporary, own, global, element, load, unop, binop, if_, Target, to_global, to_element, to_pointer, Statement, skip, set, store, call, seq, if_else, loop, block, exit, return_, lock, unlock, print, Statements, no_more, one_more, Routine}
use Rattle.cas_mid.specs.Language.{Parts, begin, end_block, Continuation, statement_price, operand_prices, argument_prices, returned_prices, step_price, step_operands, weight_prices, all_weight_prices, activations}
use Rattle.cas_mid.specs.Expressions.{Own, value_prices, target_prices, word_operator_price, operator_price, parts_by}

-- two lists of prices, one after the other
pub prices_more : (ms ns : List ℕ) → ArePrices ms → ArePrices ns → ArePrices (ms ++ ns)
prices_more [] ns h i = i
prices_more (m ∷ ms) ns h i = (h.0, prices_more ms ns h.1 i)

module _ {E M C : Type 0} (x : Parts E M C) (values : (e : E) → ArePrices (x.value_prices e))
    (locations : (m : M) → ArePrices (x.location_prices m)) (tests : (c : C) → ArePrices (x.test_prices c)) where
  one : (n : ℕ) → 1 ≤ n → n ≤ 1000 → IsPrice n
  one n least most = record { least = least; most = most }

  arguments_are : (es : List E) → ArePrices (argument_prices x es)
  arguments_are [] = tt
  arguments_are (e ∷ es) = (
    one _ (omega arith) (omega arith),
    prices_more (x.value_prices e) (argument_prices x es) (values e)
        (arguments_are es),
  )

  returned_are : (e : Option E) → ArePrices (returned_prices x e)
  returned_are None = tt
  returned_are (Some e) = (one _ (omega arith) (omega arith), values e)

  statement_is : (a : Statement E M C) → IsPrice (statement_price x a)
  statement_is skip = one _ (omega arith) (omega arith)
  statement_is (set t e) = one _ (omega arith) (omega arith)
  statement_is (store m e) = one _ (omega arith) (omega arith)
  statement_is (call t name es) = one _ (omega arith) (omega arith)
  statement_is (seq bs) = one _ (omega arith) (omega arith)
  statement_is (if_else c a b) = one _ (omega arith) (omega arith)
  statement_is (loop a) = one _ (omega arith) (omega arith)
  statement_is (block a) = one _ (omega arith) (omega arith)
  statement_is (exit n) = one _ (omega arith) (omega arith)
  statement_is (return_ e) = one _ (omega arith) (omega arith)
  statement_is (lock name) = one _ (omega arith) (omega arith)
  statement_is (unlock name) = one _ (omega arith) (omega arith)
  statement_is (print e) = one _ (omega arith) (omega arith)

  operands_are : (a : Statement E M C) → ArePrices (operand_prices x a)
  operands_are skip = tt
  operands_are (set t e) = values e
  operands_are (store m e) = prices_more (x.location_prices m) (x.value_prices e) (locations m) (values e)
  operands_are (call t name es) = arguments_are es
  operands_are (seq bs) = tt
  operands_are (if_else c a b) = tests c
  operands_are (loop a) = tt
  operands_are (block a) = tt
  operands_are (exit n) = tt
  operands_are (return_ e) = returned_are e
  operands_are (lock name) = tt
  operands_are (unlock name) = tt
  operands_are (print e) = values e

  step_is : (rest : Continuation E M C) → IsPrice (step_price x rest)
  step_is [] = one _ (omega arith) (omega arith)
  step_is (end_block ∷ rest) = one _ (omega arith) (omega arith)
  step_is (begin a ∷ rest) = statement_is a

  step_operands_are : (rest : Continuation E M C) → ArePrices (step_operands x rest)
  step_operands_are [] = tt
  step_operands_are (end_block ∷ rest) = tt
  step_operands_are (begin a ∷ rest) = operands_are a

  mutual
    weights_are : (a : Statement E M C) → ArePrices (weight_prices x a)
    weights_are skip = (one _ (omega arith) (omega arith), tt)
    weights_are (set t e) = (one _ (omega arith) (omega arith), values e)
    weights_are (store m e) = (
      one _ (omega arith) (omega arith),
      prices_more (x.location_prices m) (x.value_prices e) (locations m)
          (values e),
    )
    weights_are (call t name es) = (one _ (omega arith) (omega arith), arguments_are es)
    weights_are (seq bs) = (one _ (omega arith) (omega arith), all_weights_are bs)
    weights_are (if_else c a b) = (
      one _ (omega arith) (omega arith),
      prices_more (x.test_prices c ++ weight_prices x a) (weight_prices x b)
          (prices_more (x.test_prices c) (weight_prices x a) (tests c) (weights_are a)) (weights_are b),
    )
    weights_are (loop a) = (one _ (omega arith) (omega arith), weights_are a)
    weights_are (block a) = (one _ (omega arith) (omega arith), (one _ (omega arith) (omega arith), weights_are a))
    weights_are (exit n) = (one _ (omega arith) (omega arith), tt)
    weights_are (return_ e) = (one _ (omega arith) (omega arith), returned_are e)
    weights_are (lock name) = (one _ (omega arith) (omega arith), tt)
    weights_are (unlock name) = (one _ (omega arith) (omega arith), tt)
    weights_are (print e) = (one _ (omega arith) (omega arith), values e)

    all_weights_are : (bs : Statements E M C) → ArePrices (all_weight_prices x bs)
    all_weights_are no_more = tt
    all_weights_are (one_more a bs) = prices_more (weight_prices x a) (all_weight_prices x bs) (weights_are a)
        (all_weights_are bs)

  -- the tariff of a language with statements
  pub tariff_is : {F : Type 0} (routine : F → Routine E M C) → IsTariff (activations x routine).tariff
  tariff_is routine = (
    λ s. (step_is s.continuation, step_operands_are s.continuation),
    omega arith,
    λ f.
        (one _ (omega arith) (omega arith), weights_are (routine f).body),
  )

private_price : (n : ℕ) → 1 ≤ n → n ≤ 1000 → IsPrice n
private_price n least most = record { least = least; most = most }

word_operator_is : (o : BinaryOperator) → IsPrice (word_operator_price o)
word_operator_is op.Div = private_price _ (omega arith) (omega arith)
word_operator_is op.Mod = private_price _ (omega arith) (omega arith)
word_operator_is op.Shl = private_price _ (omega arith) (omega arith)
word_operator_is op.Shr = private_price _ (omega arith) (omega arith)
word_operator_is op.Add = private_price _ (omega arith) (omega arith)
word_operator_is op.Sub = private_price _ (omega arith) (omega arith)
word_operator_is op.Mul = private_price _ (omega arith) (omega arith)
word_operator_is op.BitAnd = private_price _ (omega arith) (omega arith)
word_operator_is op.BitOr = private_price _ (omega arith) (omega arith)
word_operator_is op.BitXor = private_price _ (omega arith) (omega arith)
word_operator_is op.Eq = private_price _ (omega arith) (omega arith)
word_operator_is op.Ne = private_price _ (omega arith) (omega arith)
word_operator_is op.Lt = private_price _ (omega arith) (omega arith)
word_operator_is op.Le = private_price _ (omega arith) (omega arith)
word_operator_is op.Gt = private_price _ (omega arith) (omega arith)
word_operator_is op.Ge = private_price _ (omega arith) (omega arith)

operator_is : (o : Binop) → IsPrice (operator_price o)
operator_is (OnWords o s) = word_operator_is o
operator_is (PointerPlus s) = private_price _ (omega arith) (omega arith)
operator_is (PlusPointer s) = private_price _ (omega arith) (omega arith)
operator_is (PointerMinus s) = private_price _ (omega arith) (omega arith)
operator_is PointerDifference = private_price _ (omega arith) (omega arith)
operator_is (Compare o) = private_price _ (omega arith) (omega arith)

pub values_are : (e : Expression) → ArePrices (value_prices e)
values_are (word n) = (private_price _ (omega arith) (omega arith), tt)
values_are (temporary t) = (private_price _ (omega arith) (omega arith), tt)
values_are (own n) = (private_price _ (omega arith) (omega arith), tt)
values_are (global g) = (private_price _ (omega arith) (omega arith), tt)
values_are (element g s a) = (private_price _ (omega arith) (omega arith), values_are a)
values_are (load a) = (private_price _ (omega arith) (omega arith), values_are a)
values_are (unop o a) = (private_price _ (omega arith) (omega arith), values_are a)
values_are (binop o a b) = (operator_is o, prices_more (value_prices a) (value_prices b) (values_are a) (values_are b))
values_are (if_ c a b) = (
  private_price _ (omega arith) (omega arith),
  prices_more (value_prices c ++ value_prices a) (value_prices b)
      (prices_more (value_prices c) (value_prices a) (values_are c) (values_are a)) (values_are b),
)

targets_are : (m : Target) → ArePrices (target_prices m)
targets_are (to_global g) = tt
targets_are (to_element g s a) = values_are a
targets_are (to_pointer a) = values_are a

-- the tariffs of Csharpminor and Cminor
pub tariff_by : (address : Own) {F : Type 0} (routine : F → Routine Expression Target Expression) →
    IsTariff (activations (parts_by address) routine).tariff
tariff_by address routine = tariff_is (parts_by address) values_are targets_are values_are routine

-- The constants of CminorSel are prices.
use Rattle.std.proofs.Common.{ℕ, ◌≤◌, ◌++◌, arith}
use Rattle.cas_runs.specs.Bounds.{IsPrice, ArePrices, IsTariff}
use Rattle.cas_mid.specs.declared.tree.Binop.{Binop}
use Rattle.cas_mid.specs.Trees as cminor
use Rattle.cas_mid.specs.Expressions.{operator_price}
use Rattle.cas_mid.proofs.Tariffs.{prices_more, tariff_is, values_are}
use Rattle.cas_sel.specs.declared.tree.Op.{Op}
use Rattle.cas_sel.specs.declared.tree.Op.TheVariants as op
use Rattle.cas_sel.specs.Trees.{Expr, temporary, operation, load, if_, Exprs, no_more, one_more, Test, holds, always, if_test}
use Rattle.cas_sel.specs.Code.{sel_routine}
use Rattle.cas_sel.specs.CminorSel.{op_price, value_prices, all_prices, test_prices, sel_parts, cminorsel}

price : (n : ℕ) → 1 ≤ n → n ≤ 1000 → IsPrice n
price n least most = record { least = least; most = most }

-- an operator costs what it costs in Cminor
binop_is : (o : Binop) → IsPrice (operator_price o)
binop_is o = (values_are (cminor.binop o (cminor.word 0) (cminor.word 0))).0

op_is : (o : Op) → IsPrice (op_price o)
op_is (op.Constant n) = price _ (omega arith) (omega arith)
op_is (op.StackAddress offset) = price _ (omega arith) (omega arith)
op_is op.Move = price _ (omega arith) (omega arith)
op_is (op.Unary o) = price _ (omega arith) (omega arith)
op_is (op.Binary o) = binop_is o
op_is (op.WithNumber o n) = binop_is o

mutual
  expressions_are : (e : Expr) → ArePrices (value_prices e)
  expressions_are (temporary t) = (price _ (omega arith) (omega arith), tt)
  expressions_are (operation o es) = (op_is o, operands_are es)
  expressions_are (load m es) = (price _ (omega arith) (omega arith), operands_are es)
  expressions_are (if_ c a b) = (
    price _ (omega arith) (omega arith),
    prices_more (test_prices c ++ value_prices a) (value_prices b)
        (prices_more (test_prices c) (value_prices a) (tests_are c) (expressions_are a)) (expressions_are b),
  )

  operands_are : (es : Exprs) → ArePrices (all_prices es)
  operands_are no_more = tt
  operands_are (one_more e es) = prices_more (value_prices e) (all_prices es) (expressions_are e) (operands_are es)

  tests_are : (c : Test) → ArePrices (test_prices c)
  tests_are (holds c es) = operands_are es
  tests_are (always is) = (price _ (omega arith) (omega arith), tt)
  tests_are (if_test a b c) = (
    price _ (omega arith) (omega arith),
    prices_more (test_prices a ++ test_prices b) (test_prices c)
        (prices_more (test_prices a) (test_prices b) (tests_are a) (tests_are b)) (tests_are c),
  )

pub sel_tariff : IsTariff cminorsel.tariff
sel_tariff = tariff_is sel_parts expressions_are (λ a. operands_are a.operands) tests_are sel_routine

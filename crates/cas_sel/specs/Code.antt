-- What the code's trees and functions hold.
use Rattle.std.specs.Prelude.{List, [], ◌∷◌}
use Rattle.cas_runs.specs.Calls.{one_block}
use Rattle.cas_mid.specs.Code.{statement_of, parameter_count}
use Rattle.cas_sel.specs.declared.tree.SelAddress.{SelAddress}
use Rattle.cas_sel.specs.declared.tree.SelExpr.{SelExpr, Temp, Operation', Load', If', Row_of-SelExpr, end_of-SelExpr, more_of-SelExpr}
use Rattle.cas_sel.specs.declared.tree.SelTest as tests
use Rattle.cas_sel.specs.declared.tree.SelFun.{SelFun}
use Rattle.cas_sel.specs.Trees.{Expr, temporary, operation, load, if_, Exprs, no_more, one_more, Test, holds, always, if_test, Address, Routine}

abbrev mutual
  pub expression_of : SelExpr → Expr
  expression_of (Temp t) = temporary t
  expression_of (Operation' o shape all) = operation o (operands_of all)
  expression_of (Load' m shape all) = load m (operands_of all)
  expression_of (If' p c q a r b) = if_ (test_of c) (expression_of a) (expression_of b)

  pub operands_of : {n : _} → Row_of-SelExpr n → Exprs
  operands_of end_of-SelExpr = no_more
  operands_of (more_of-SelExpr a rest) = one_more (expression_of a) (operands_of rest)

  pub test_of : tests.SelTest → Test
  test_of (tests.Holds' c shape all) = holds c (operands_of all)
  test_of (tests.Always is) = always is
  test_of (tests.If' p a q b r c) = if_test (test_of a) (test_of b) (test_of c)

-- the expressions of a list
abbrev pub list_of : List SelExpr → Exprs
list_of [] = no_more
list_of (a ∷ rest) = one_more (expression_of a) (list_of rest)

-- what a store writes
abbrev pub address_of : SelAddress → Address
address_of a = record { mode = a.mode; operands = list_of a.operands.items }

abbrev pub sel_routine : SelFun → Routine
sel_routine f = record {
  name = f.decl.name;
  parameters = parameter_count f.decl.form;
  blocks = one_block f.block;
  temporaries = f.temps;
  names = f.temps;
  body = statement_of expression_of address_of test_of f.body;
}

-- The rooms of functions: no later form of a function takes more words of stack than its room. Each value that an
-- expression has between others takes a word, and so does each argument of a call.
use Rattle.std.specs.Prelude.{ℕ, ◌+◌, length, Option, Some, None}
use Rattle.cas_runs.specs.Bounds.{total}
use Rattle.cas_mid.specs.Rooms.{fixed_room}
use Rattle.cas_mid.specs.Trees as st
use Rattle.cas_sel.specs.Trees.{Expr, temporary, operation, load, if_, Exprs, no_more, one_more, Test, holds, always, if_test, Statement, Statements, Routine, listed}

-- the value of an operand, if it isn't a temporary, which has one
abbrev pub own_value : Expr → ℕ
own_value (temporary t) = 0
own_value (operation o es) = 1
own_value (load m es) = 1
own_value (if_ c a b) = 1

abbrev pub own_values : Exprs → ℕ
own_values no_more = 0
own_values (one_more e es) = own_value e + own_values es

-- the values of an expression besides its own. The branches of an If give its own value
abbrev mutual
  pub inner_values : Expr → ℕ
  inner_values (temporary t) = 0
  inner_values (operation o es) = own_values es + all_inner_values es
  inner_values (load m es) = own_values es + all_inner_values es
  inner_values (if_ c a b) = inner_values a + inner_values b + test_values c

  pub all_inner_values : Exprs → ℕ
  all_inner_values no_more = 0
  all_inner_values (one_more e es) = all_inner_values es + inner_values e

  -- those of a condition
  pub test_values : Test → ℕ
  test_values (holds c es) = own_values es + all_inner_values es
  test_values (always is) = 0
  test_values (if_test a b c) = test_values b + test_values c + test_values a

abbrev pub returned_values : Option Expr → ℕ
returned_values None = 0
returned_values (Some e) = own_value e + inner_values e

-- those of a statement, each by itself
abbrev mutual
  pub statement_values : Statement → ℕ
  statement_values st.skip = 0
  statement_values (st.set t e) = inner_values e
  statement_values (st.store a e) = own_values a.operands + own_value e + inner_values e + all_inner_values a.operands
  statement_values (st.call t name es) = own_values (listed es) + all_inner_values (listed es)
  statement_values (st.seq bs) = all_statement_values bs
  statement_values (st.if_else c a b) = statement_values a + statement_values b + test_values c
  statement_values (st.loop a) = statement_values a
  statement_values (st.block a) = statement_values a
  statement_values (st.exit n) = 0
  statement_values (st.return_ o) = returned_values o
  statement_values (st.lock name) = 0
  statement_values (st.unlock name) = 0
  statement_values (st.print e) = own_value e + inner_values e

  pub all_statement_values : Statements → ℕ
  all_statement_values st.no_more = 0
  all_statement_values (st.one_more a bs) = all_statement_values bs + statement_values a

-- the arguments of all calls
abbrev mutual
  pub passed : Statement → ℕ
  passed (st.call t name es) = length es
  passed (st.seq bs) = all_passed bs
  passed (st.if_else c a b) = passed a + passed b
  passed (st.loop a) = passed a
  passed (st.block a) = passed a
  passed _ = 0

  pub all_passed : Statements → ℕ
  all_passed st.no_more = 0
  all_passed (st.one_more a bs) = passed a + all_passed bs

abbrev pub room_of : Routine → ℕ
room_of r = total r.blocks + r.temporaries + statement_values r.body + passed r.body + fixed_room

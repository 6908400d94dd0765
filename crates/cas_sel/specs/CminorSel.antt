-- CminorSel: the statements of Cminor over operators, addressing modes and conditions. Reading a value that may only be
-- kept fails.
use Rattle.std.specs.Prelude.{ℕ, Bool, List, [], ◌∷◌, ◌++◌, slice_get}
use Rattle.cas_runs.specs.Calls.{Activations}
use Rattle.cas_runs.specs.Naming.{Value, usable, usable_in}
use Rattle.cas_runs.specs.Access.{Accesses, with_value}
use Rattle.cas_mid.specs.declared.price.TheConstants.{CONSTANT, TEMP, LOAD, OPERATOR, IF}
use Rattle.cas_mid.specs.Operators.{either}
use Rattle.cas_mid.specs.Expressions.{operator_price}
use Rattle.cas_mid.specs.Language.{Frame, Location, Parts, State, activations}
use Rattle.cas_sel.specs.declared.tree.Op.{Op}
use Rattle.cas_sel.specs.declared.tree.Op.TheVariants as op
use Rattle.cas_sel.specs.declared.tree.SelFun.{SelFun}
use Rattle.cas_sel.specs.declared.price.TheConstants.{IF_TEST, ALWAYS}
use Rattle.cas_sel.specs.Query.{asking}
use Rattle.cas_sel.specs.Operations.{Within, operate, locate, load_by, decide}
use Rattle.cas_sel.specs.Trees.{Expr, temporary, operation, load, if_, Exprs, no_more, one_more, Test, holds, always, if_test, Address}
use Rattle.cas_sel.specs.Code.{sel_routine}

-- the activation in which expressions are
abbrev pub within : Frame → Within
within f = record { function = f.function; serial = f.serial }

abbrev mutual
  pub value : {L : Type 0} → Frame → Expr → (Value → Accesses L) → Accesses L
  value f (temporary t) next = with_value (usable_in (slice_get f.temporaries t)) next
  value f (operation o es) next = values f es (λ vs. asking (operate (within f) o vs) next)
  value f (load m es) next = values f es (λ vs. asking (load_by (within f) m vs) (λ v. with_value (usable v) next))
  value f (if_ c a b) next = test f c (λ is. either (value f a next) (value f b next) is)

  -- the values of operands, from left to right
  pub values : {L : Type 0} → Frame → Exprs → (List Value → Accesses L) → Accesses L
  values f no_more next = next []
  values f (one_more e es) next = value f e (λ v. values f es (λ vs. next (v ∷ vs)))

  pub test : {L : Type 0} → Frame → Test → (Bool → Accesses L) → Accesses L
  test f (holds c es) next = values f es (λ vs. asking (decide c vs) next)
  test f (always is) next = next is
  test f (if_test a b c) next = test f a (λ is. either (test f b next) (test f c next) is)

abbrev pub location : {L : Type 0} → Frame → Address → (Location → Accesses L) → Accesses L
location f a next = values f a.operands (λ vs. with_value (locate (within f) a.mode vs) next)

abbrev pub op_price : Op → ℕ
op_price (op.Constant n) = CONSTANT
op_price (op.StackAddress offset) = CONSTANT
op_price op.Move = TEMP
op_price (op.Unary o) = OPERATOR
op_price (op.Binary o) = operator_price o
op_price (op.WithNumber o n) = operator_price o

abbrev mutual
  pub value_prices : Expr → List ℕ
  value_prices (temporary t) = TEMP ∷ []
  value_prices (operation o es) = op_price o ∷ all_prices es
  value_prices (load m es) = LOAD ∷ all_prices es
  value_prices (if_ c a b) = IF ∷ test_prices c ++ value_prices a ++ value_prices b

  pub all_prices : Exprs → List ℕ
  all_prices no_more = []
  all_prices (one_more e es) = value_prices e ++ all_prices es

  -- what a condition costs besides its own test, which an If or an IfElse pays for
  pub test_prices : Test → List ℕ
  test_prices (holds c es) = all_prices es
  test_prices (always is) = ALWAYS ∷ []
  test_prices (if_test a b c) = IF_TEST ∷ test_prices a ++ test_prices b ++ test_prices c

abbrev pub location_prices : Address → List ℕ
location_prices a = all_prices a.operands

abbrev pub sel_parts : Parts Expr Address Test
sel_parts = record {
  value = λ f e next. value f e next;
  location = λ f a next. location f a next;
  test = λ f c next. test f c next;
  value_prices = value_prices;
  location_prices = location_prices;
  test_prices = test_prices;
}

abbrev pub SelState : Type 0
SelState = State Expr Address Test

abbrev pub cminorsel : Activations SelFun SelState
cminorsel = activations sel_parts sel_routine

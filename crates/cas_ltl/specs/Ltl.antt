-- LTL: graphs over registers and slots, which have no value at first.
use Rattle.std.specs.Prelude.{ℕ}
use Rattle.cas_syntax.specs.declared.tree.BinaryOperator.{BinaryOperator}
use Rattle.cas_syntax.specs.declared.tree.BinaryOperator.TheVariants as binary
use Rattle.cas_runs.specs.Calls.{Activations}
use Rattle.cas_mid.specs.declared.tree.Binop.{Binop}
use Rattle.cas_mid.specs.declared.tree.Binop.TheVariants.{OnWords, PointerPlus, PlusPointer, PointerMinus, PointerDifference, Compare}
use Rattle.cas_sel.specs.declared.tree.Op.{Op}
use Rattle.cas_sel.specs.declared.tree.Op.TheVariants as op
use Rattle.cas_rtl.specs.Graph as graph
use Rattle.cas_rtl.specs.Graph.{Node, Graph, Point, Prices, graphs}
use Rattle.cas_ltl.specs.declared.price.TheConstants.{OPERAND, ARGUMENT, CONSTANT, MOVE, OPERATOR, SHIFT, POINTER_MINUS, DIVISION, LOAD, STORE, TEST, CALL, RETURN, LOCK, OUT, NOP, ENTRY}
use Rattle.cas_ltl.specs.declared.tree.Loc.{Loc}
use Rattle.cas_ltl.specs.Locations.{locations}

-- what an operator costs
abbrev pub word_operator_price : BinaryOperator → ℕ
word_operator_price binary.Div = DIVISION
word_operator_price binary.Mod = DIVISION
word_operator_price binary.Shl = SHIFT
word_operator_price binary.Shr = SHIFT
word_operator_price _ = OPERATOR

abbrev pub operator_price : Binop → ℕ
operator_price (OnWords o s) = word_operator_price o
operator_price (PointerPlus s) = OPERATOR
operator_price (PlusPointer s) = OPERATOR
operator_price (PointerMinus s) = POINTER_MINUS
operator_price PointerDifference = SHIFT
operator_price (Compare o) = OPERATOR

abbrev pub op_price : Op → ℕ
op_price (op.Constant n) = CONSTANT
op_price (op.StackAddress offset) = CONSTANT
op_price op.Move = MOVE
op_price (op.Unary o) = OPERATOR
op_price (op.Binary o) = operator_price o
op_price (op.WithNumber o n) = operator_price o

abbrev pub node_price : Node Loc → ℕ
node_price (graph.nop n) = NOP
node_price (graph.op o ins r n) = op_price o
node_price (graph.load m ins r n) = LOAD
node_price (graph.store m ins r n) = STORE
node_price (graph.call f ins r n) = CALL
node_price (graph.tail f ins) = RETURN
node_price (graph.test c ins n m) = TEST
node_price (graph.return_ r) = RETURN
node_price (graph.lock name n) = LOCK
node_price (graph.unlock name n) = LOCK
node_price (graph.out r n) = OUT

abbrev pub ltl_prices : Prices Loc
ltl_prices = record { form = node_price; operand = OPERAND; argument = ARGUMENT; entry = ENTRY }

abbrev pub LtlPoint : Type 0
LtlPoint = Point Loc

-- the language, over functions F that stand for graphs
abbrev pub ltl : {F : Type 0} → (F → Graph Loc) → Activations F LtlPoint
ltl graph_of = graphs locations ltl_prices graph_of

-- The constants of LTL are prices.
use Rattle.std.proofs.Common.{ℕ, ◌≤◌, List, [], ◌∷◌, Option, Some, None, slice_get, arith}
use Rattle.cas_syntax.specs.declared.tree.BinaryOperator.{BinaryOperator}
use Rattle.cas_syntax.specs.declared.tree.BinaryOperator.TheVariants as binary
use Rattle.cas_runs.specs.Bounds.{IsPrice, ArePrices, IsTariff}
use Rattle.cas_mid.specs.declared.tree.Binop.{Binop}
use Rattle.cas_mid.specs.declared.tree.Binop.TheVariants.{OnWords, PointerPlus, PlusPointer, PointerMinus, PointerDifference, Compare}
use Rattle.cas_mid.proofs.Tariffs.{prices_more}
use Rattle.cas_sel.specs.declared.tree.Op.{Op}
use Rattle.cas_sel.specs.declared.tree.Op.TheVariants as op
use Rattle.cas_rtl.specs.Graph as graph
use Rattle.cas_rtl.specs.Graph.{Node, Graph, each_operand, each_argument, node_operands, operands_at, price_at, all_prices}
use Rattle.cas_ltl.specs.declared.tree.Loc.{Loc}
use Rattle.cas_ltl.specs.Ltl.{word_operator_price, operator_price, op_price, node_price, ltl_prices, ltl}

price : (n : ℕ) → 1 ≤ n → n ≤ 1000 → IsPrice n
price n least most = record { least = least; most = most }

word_is : (o : BinaryOperator) → IsPrice (word_operator_price o)
word_is binary.Add = price _ (omega arith) (omega arith)
word_is binary.Sub = price _ (omega arith) (omega arith)
word_is binary.Mul = price _ (omega arith) (omega arith)
word_is binary.Div = price _ (omega arith) (omega arith)
word_is binary.Mod = price _ (omega arith) (omega arith)
word_is binary.Shl = price _ (omega arith) (omega arith)
word_is binary.Shr = price _ (omega arith) (omega arith)
word_is binary.BitAnd = price _ (omega arith) (omega arith)
word_is binary.BitOr = price _ (omega arith) (omega arith)
word_is binary.BitXor = price _ (omega arith) (omega arith)
word_is binary.Eq = price _ (omega arith) (omega arith)
word_is binary.Ne = price _ (omega arith) (omega arith)
word_is binary.Lt = price _ (omega arith) (omega arith)
word_is binary.Le = price _ (omega arith) (omega arith)
word_is binary.Gt = price _ (omega arith) (omega arith)
word_is binary.Ge = price _ (omega arith) (omega arith)

binop_is : (o : Binop) → IsPrice (operator_price o)
binop_is (OnWords o s) = word_is o
binop_is (PointerPlus s) = price _ (omega arith) (omega arith)
binop_is (PlusPointer s) = price _ (omega arith) (omega arith)
binop_is (PointerMinus s) = price _ (omega arith) (omega arith)
binop_is PointerDifference = price _ (omega arith) (omega arith)
binop_is (Compare o) = price _ (omega arith) (omega arith)

op_is : (o : Op) → IsPrice (op_price o)
op_is (op.Constant n) = price _ (omega arith) (omega arith)
op_is (op.StackAddress offset) = price _ (omega arith) (omega arith)
op_is op.Move = price _ (omega arith) (omega arith)
op_is (op.Unary o) = price _ (omega arith) (omega arith)
op_is (op.Binary o) = binop_is o
op_is (op.WithNumber o n) = binop_is o

form_is : (node : Node Loc) → IsPrice (node_price node)
form_is (graph.nop n) = price _ (omega arith) (omega arith)
form_is (graph.op o ins r n) = op_is o
form_is (graph.load m ins r n) = price _ (omega arith) (omega arith)
form_is (graph.store m ins r n) = price _ (omega arith) (omega arith)
form_is (graph.call f ins r n) = price _ (omega arith) (omega arith)
form_is (graph.tail f ins) = price _ (omega arith) (omega arith)
form_is (graph.test c ins n m) = price _ (omega arith) (omega arith)
form_is (graph.return_ r) = price _ (omega arith) (omega arith)
form_is (graph.lock name n) = price _ (omega arith) (omega arith)
form_is (graph.unlock name n) = price _ (omega arith) (omega arith)
form_is (graph.out r n) = price _ (omega arith) (omega arith)

operands_are : (ins : List Loc) → ArePrices (each_operand ltl_prices ins)
operands_are [] = tt
operands_are (r ∷ rs) = (price _ (omega arith) (omega arith), operands_are rs)

arguments_are : (ins : List Loc) → ArePrices (each_argument ltl_prices ins)
arguments_are [] = tt
arguments_are (r ∷ rs) = (price _ (omega arith) (omega arith), (price _ (omega arith) (omega arith), arguments_are rs))

reads_are : (node : Node Loc) → ArePrices (node_operands ltl_prices node)
reads_are (graph.nop n) = tt
reads_are (graph.op o ins r n) = operands_are ins
reads_are (graph.load m ins r n) = operands_are ins
reads_are (graph.store m ins r n) = (price _ (omega arith) (omega arith), operands_are ins)
reads_are (graph.call f ins r n) = arguments_are ins
reads_are (graph.tail f ins) = arguments_are ins
reads_are (graph.test c ins n m) = operands_are ins
reads_are (graph.return_ None) = tt
reads_are (graph.return_ (Some r)) = (price _ (omega arith) (omega arith), (price _ (omega arith) (omega arith), tt))
reads_are (graph.lock name n) = tt
reads_are (graph.unlock name n) = tt
reads_are (graph.out r n) = (price _ (omega arith) (omega arith), tt)

form_at : (o : Option (Node Loc)) → IsPrice (price_at ltl_prices o)
form_at None = price _ (omega arith) (omega arith)
form_at (Some node) = form_is node

reads_at : (o : Option (Node Loc)) → ArePrices (operands_at ltl_prices o)
reads_at None = tt
reads_at (Some node) = reads_are node

nodes_are : (ns : List (Node Loc)) → ArePrices (all_prices ltl_prices ns)
nodes_are [] = tt
nodes_are (node ∷ ns) = (
  form_is node,
  prices_more (node_operands ltl_prices node) (all_prices ltl_prices ns) (reads_are node) (nodes_are ns),
)

pub ltl_tariff : {F : Type 0} (graph_of : F → Graph Loc) → IsTariff (ltl graph_of).tariff
ltl_tariff graph_of = (
  λ p. (form_at (slice_get p.graph.nodes p.at), reads_at (slice_get p.graph.nodes p.at)),
  omega arith,
  λ f. nodes_are (graph_of f).nodes,
)

-- The graph of a function. Nodes are made from the last to the first, so that a successor has its number when it is
-- named. A value between has a pseudo-register of its own: those of operands are the next ones, which their node names,
-- and then come those within the operands.
use Rattle.std.specs.Prelude.{ℕ, zero, suc, ◌+◌, ◌-◌, List, [], ◌∷◌, ◌++◌, length, Option, Some, None, slice_get}
use Rattle.cas_mid.specs.Operators.{either}
use Rattle.cas_mid.specs.Trees as st
use Rattle.cas_sel.specs.declared.tree.Op.TheVariants.{Constant, Move}
use Rattle.cas_sel.specs.Trees.{Expr, temporary, operation, load, if_, Exprs, no_more, one_more, Test, holds, always, if_test, Address, Statement, Statements, Routine, listed}
use Rattle.cas_sel.specs.Rooms.{own_value, own_values, inner_values, all_inner_values, test_values, statement_values, all_statement_values}
use Rattle.cas_rtl.specs.Graph as graph
use Rattle.cas_rtl.specs.Graph.{Node, Graph}
use Rattle.cas_rtlgen.specs.declared.draft.Way.{Way}
use Rattle.cas_rtlgen.specs.declared.draft.Way.TheVariants.{ComesInto, IsFound}
use Rattle.cas_rtlgen.specs.Makes.{first_registers}

-- the nodes from a number on, and the node at which they begin
pub record Piece : Type 0 where
  pub nodes : List (Node ℕ)
  pub entry : ℕ

-- where the value of an operand will be: that of a temporary is there already
abbrev pub register : Expr → (low : ℕ) → ℕ
register (temporary t) low = t
register (operation o es) low = low
register (load m es) low = low
register (if_ c a b) low = low

abbrev pub registers : Exprs → (low : ℕ) → List ℕ
registers no_more low = []
registers (one_more e es) low = register e low ∷ registers es (low + own_value e)

-- no node: it goes on there
abbrev pub nothing : (next : ℕ) → Piece
nothing next = record { nodes = []; entry = next }

-- a node, which was made before those that lead to it
abbrev pub then_node : Piece → Node ℕ → Piece
then_node p node = record { nodes = node ∷ p.nodes; entry = p.entry }

-- nodes that were made before
abbrev pub then_nodes : Piece → List (Node ℕ) → Piece
then_nodes p nodes = record { nodes = nodes ++ p.nodes; entry = p.entry }

-- one node
abbrev pub only : Node ℕ → (base : ℕ) → Piece
only node base = record { nodes = node ∷ []; entry = base }

abbrev pub of_temporary : ℕ → (base next r : ℕ) → Way → Piece
of_temporary t base next r ComesInto = only (graph.op Move (t ∷ []) r next) base
of_temporary t base next r IsFound = nothing next

-- The value comes into r, or to be found there. The nodes have the numbers from `base` on and lead to `next`; values
-- within have the pseudo-registers from `low` on
abbrev mutual
  pub value : Expr → (base next low r : ℕ) → Way → Piece
  value (temporary t) base next low r way = of_temporary t base next r way
  value (operation o es) base next low r way =
      then_node (all es (base + 1) base low (low + own_values es)) (graph.op o (registers es low) r next)
  value (load m es) base next low r way =
      then_node (all es (base + 1) base low (low + own_values es)) (graph.load m (registers es low) r next)
  value (if_ c a b) base next low r way =
      let one = value a base next low r ComesInto in
      let two = value b (base + length one.nodes) next (low + inner_values a) r ComesInto in
      then_nodes (decides c (base + length one.nodes + length two.nodes) one.entry two.entry
      (low + inner_values a + inner_values b)) (one.nodes ++ two.nodes)

  -- the values of operands, in the pseudo-registers from `first` on
  pub all : Exprs → (base next first low : ℕ) → Piece
  all no_more base next first low = nothing next
  all (one_more e es) base next first low =
      let rest = all es base next (first + own_value e) low in
      then_nodes (value e (base + length rest.nodes) rest.entry (low + all_inner_values es) first IsFound) rest.nodes

  -- a condition leads to one node or to the other
  pub decides : Test → (base left right low : ℕ) → Piece
  decides (holds c es) base left right low =
      then_node (all es (base + 1) base low (low + own_values es)) (graph.test c (registers es low) left right)
  decides (always is) base left right low = only (graph.nop (either left right is)) base
  decides (if_test a b c) base left right low =
      let two = decides b base left right low in
      let three = decides c (base + length two.nodes) left right (low + test_values b) in
      then_nodes (decides a (base + length two.nodes + length three.nodes) two.entry three.entry
      (low + test_values b + test_values c)) (two.nodes ++ three.nodes)

-- the node that leaving so many Blocks leads to
abbrev pub exit_to : Option ℕ → (next : ℕ) → ℕ
exit_to None next = next
exit_to (Some n) next = n

-- a node that uses a value
abbrev pub using : Expr → (base low : ℕ) → Node ℕ → Piece
using e base low node = then_node (value e (base + 1) base (low + own_value e) low IsFound) node

abbrev pub returned : Option Expr → (base low : ℕ) → Piece
returned None base low = only (graph.return_ None) base
returned (Some e) base low = using e base low (graph.return_ (Some (register e low)))

-- a node that uses operands
abbrev pub using_all : Exprs → (base low : ℕ) → Node ℕ → Piece
using_all es base low node = then_node (all es (base + 1) base low (low + own_values es)) node

-- the stored value is found after the operands
abbrev pub stored : Address → Expr → (base next low : ℕ) → Piece
stored a e base next low =
    let r = low + own_values a.operands in
    let stored = value e (base + 1) base (r + own_value e) r IsFound in
    then_node (then_nodes (all a.operands (base + 1 + length stored.nodes) stored.entry low
    (r + own_value e + inner_values e)) stored.nodes)
    (graph.store a.mode (registers a.operands low) (register e r) next)

abbrev mutual
  -- a statement, which leads to `next`; leaving k + 1 Blocks leads to the k-th of the exits
  pub statement : Statement → (exits : List ℕ) → (base next low : ℕ) → Piece
  statement st.skip exits base next low = nothing next
  statement (st.set t e) exits base next low = value e base next low t ComesInto
  statement (st.store a e) exits base next low = stored a e base next low
  statement (st.call t name es) exits base next low =
      using_all (listed es) base low (graph.call name (registers (listed es) low) t next)
  statement (st.seq bs) exits base next low = sequence bs exits base next low
  statement (st.if_else c a b) exits base next low =
      let one = statement a exits base next low in
      let two = statement b exits (base + length one.nodes) next (low + statement_values a) in
      then_nodes (decides c (base + length one.nodes + length two.nodes) one.entry two.entry
      (low + statement_values a + statement_values b)) (one.nodes ++ two.nodes)
  -- its Nop stands first and leads to the body, which leads back
  statement (st.loop a) exits base next low =
      let body = statement a exits (base + 1) base low in
      record { nodes = graph.nop body.entry ∷ body.nodes; entry = base }
  statement (st.block a) exits base next low = statement a (next ∷ exits) base next low
  statement (st.exit n) exits base next low = nothing (exit_to (slice_get exits n) next)
  statement (st.return_ o) exits base next low = returned o base low
  statement (st.lock name) exits base next low = only (graph.lock name next) base
  statement (st.unlock name) exits base next low = only (graph.unlock name next) base
  statement (st.print e) exits base next low = using e base low (graph.out (register e low) next)

  -- statements, the last first
  pub sequence : Statements → (exits : List ℕ) → (base next low : ℕ) → Piece
  sequence st.no_more exits base next low = nothing next
  sequence (st.one_more a bs) exits base next low =
      let rest = sequence bs exits base next low in
      then_nodes (statement a exits (base + length rest.nodes) rest.entry (low + all_statement_values bs)) rest.nodes

-- so many temporaries from t on become 0
abbrev pub zeros : (t count base next : ℕ) → Piece
zeros t zero base next = nothing next
zeros t (suc count) base next =
    let rest = zeros (t + 1) count base next in
    then_nodes (only (graph.op (Constant 0) [] t rest.entry) (base + length rest.nodes)) rest.nodes

-- the statements of a function, behind the Return at its end, which is node 0
abbrev pub made_body : Routine → Piece
made_body g = statement g.body [] 1 0 g.temporaries

-- the temporaries that are no parameters become 0
abbrev pub made_zeros : Routine → Piece
made_zeros g =
    zeros g.parameters (g.temporaries - g.parameters) (1 + length (made_body g).nodes) (made_body g).entry

-- the graph of a function, whose entry is a Nop
abbrev pub made_graph : Routine → Graph ℕ
made_graph g = record {
  name = g.name;
  parameters = first_registers 0 g.parameters;
  blocks = g.blocks;
  names = g.temporaries + statement_values g.body;
  entry = 1 + length (made_body g).nodes + length (made_zeros g).nodes;
  nodes =
      (graph.return_ None ∷ (made_body g).nodes) ++ (made_zeros g).nodes
      ++ (graph.nop (made_zeros g).entry ∷ []);
}
